-- `records::put_totals` meets its contract. Assumes nothing.
use mir.Syntax.{w64}
use mir.Val.{SFits}
use mir.Facts.{to_z-of_z}
use borrow.Author.Rules.{rules}
use Rattle.johikape.proofs.records.put_totals.Goals as goal

pub returns : goal.returns
returns c =
    let A : SFits w64 c.unwrap_or.result = search rules in
    let B : SFits w64 c.unwrap_or-2.result = search rules in
    let D : SFits w64 c.unwrap_or-3.result = search rules in
    let E : SFits w64 c.unwrap_or-4.result = search rules in
    let F : SFits w64 c.unwrap_or-5.result = search rules in
    let G : SFits w64 c.unwrap_or-6.result = search rules in
    let H : SFits w64 c.unwrap_or-7.result = search rules in
    rw (to_z-of_z A, to_z-of_z B, to_z-of_z D, to_z-of_z E, to_z-of_z F, to_z-of_z G, to_z-of_z H, c.unwrap_or.ensures, c.unwrap_or-2.ensures, c.unwrap_or-3.ensures, c.unwrap_or-4.ensures, c.unwrap_or-5.ensures, c.unwrap_or-6.ensures, c.unwrap_or-7.ensures)

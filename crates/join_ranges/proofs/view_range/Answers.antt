-- `view_range` writes the range that the view sets. Assumes nothing.
use mathlib.Core.Path.{subst}
use Rattle.join_view.specs.View.{ViewFine}
use Rattle.join_ranges.proofs.Setting.{lays_plain, lays_window, lays_piece}
use borrow.Author.Rules.{rules}
use Rattle.join_ranges.proofs.view_range.Goals as goal

pub write_whole-requires : goal.write_whole-requires
write_whole-requires c =
    (subst ViewFine c.in-Window.is c.requires.0, search rules, search rules)

pub write_whole-requires-in-Piece : goal.write_whole-requires-in-Piece
write_whole-requires-in-Piece c =
    (subst ViewFine c.in-Piece.is c.requires.0, search rules, search rules)

pub returns-in-Plain : goal.returns-in-Plain
returns-in-Plain c =
    let v = c.args in
    lays_plain v.view v.shift v.count c.in-Plain.is

pub returns-in-Window : goal.returns-in-Window
returns-in-Window c =
    let v = c.args in
    lays_window v.view v.shift v.count c.in-Window.is c.write_whole.ensures

pub returns-in-Piece : goal.returns-in-Piece
returns-in-Piece c =
    let v = c.args in
    lays_piece v.view v.shift v.count c.in-Piece.is c.write_whole-in-Piece.ensures

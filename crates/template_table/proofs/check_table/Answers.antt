-- `check_table` meets its contract. Assumes nothing.
use mathlib.Core.Path.{sym, ◌∙◌}
use Rattle.template_table.proofs.Table.{refuse_entries, refuse_members, refuse_number, refuse_entry, refuse_member, refuse_differing, accept}
use Rattle.template_table.proofs.check_table.Goals as goal

pub returns-then-entries-ne0 : goal.returns-then-entries-ne0
returns-then-entries-ne0 c = refuse_entries _ _ _ c.if-entries-ne0.true

pub returns-then-members-ne0 : goal.returns-then-members-ne0
returns-then-members-ne0 c = refuse_members _ _ _ c.if-entries-ne0.false c.if-members-ne0.true

pub returns-then-entries-gt-MOST_ENTRIES : goal.returns-then-entries-gt-MOST_ENTRIES
returns-then-entries-gt-MOST_ENTRIES c = refuse_number _ _ _ c.if-entries-ne0.false c.if-members-ne0.false c.if-entries-gt-MOST_ENTRIES.true

pub returns-then-not-entries_fit : goal.returns-then-not-entries_fit
returns-then-not-entries_fit c = refuse_entry _ _ _ c.if-entries-ne0.false c.if-members-ne0.false c.if-entries-gt-MOST_ENTRIES.false (sym c.entries_fit.ensures ∙ c.if-not-entries_fit.true)

pub returns-then-not-members_fit : goal.returns-then-not-members_fit
returns-then-not-members_fit c =
    refuse_member _ _ _ c.if-entries-ne0.false c.if-members-ne0.false c.if-entries-gt-MOST_ENTRIES.false (sym c.entries_fit.ensures ∙ c.if-not-entries_fit.false)
    (sym c.members_fit.ensures ∙ c.if-not-members_fit.true)

pub returns-then-not-numbers_agree : goal.returns-then-not-numbers_agree
returns-then-not-numbers_agree c =
    refuse_differing _ _ _ c.if-entries-ne0.false c.if-members-ne0.false c.if-entries-gt-MOST_ENTRIES.false (sym c.entries_fit.ensures ∙ c.if-not-entries_fit.false)
    (sym c.members_fit.ensures ∙ c.if-not-members_fit.false) (sym c.numbers_agree.ensures ∙ c.if-not-numbers_agree.true)

pub returns : goal.returns
returns c =
    accept _ _ _ c.if-entries-ne0.false c.if-members-ne0.false c.if-entries-gt-MOST_ENTRIES.false (sym c.entries_fit.ensures ∙ c.if-not-entries_fit.false)
    (sym c.members_fit.ensures ∙ c.if-not-members_fit.false) (sym c.numbers_agree.ensures ∙ c.if-not-numbers_agree.false)

-- `ids_of` meets its contract. Assumes nothing.
use mathlib.Core.Path.{◌≡◌, ap, sym, ◌∙◌}
use Prim.Native.Nat.{◌+◌, ◌*◌}
use native.Mathlib.Omega.{arith}
use Rattle.template_entries.specs.Table.{entry_width}
use Rattle.template_entries.specs.Rows.{members_of}
use Rattle.template_entries.specs.declared.Members.{Members}
use Rattle.template_entries.proofs.EntryMembers.{members_read}
use Rattle.template_find.proofs.Found.{found_among}
use Rattle.template_walk.proofs.Counting.{ids_unknown, ids_found}
use Rattle.template_walk.proofs.ids_of.Goals as goal

pub returns-in_default : goal.returns-in_default
returns-in_default c = ids_unknown _ _ _ (sym c.find.ensures ∙ c.in_default.is)

pub members_of-members-requires : goal.members_of-members-requires
members_of-members-requires c = (found_among _ _ _ (sym c.find.ensures ∙ c.in-Some.is))

pub returns : goal.returns
returns c =
    let k = c.in-Some.i in
    let entries = c.args.entries.now in
    let many : c.members_of-members.result.count ≡ (members_of entries k).count = ap (λ (m : Members). m.count) c.members_of-members.ensures in
    ids_found _ _ _ (sym c.find.ensures ∙ c.in-Some.is) many
    (omega (arith, many, ap (λ (m : Members). m.count) (members_read entries k (found_among _ _ _ (sym c.find.ensures ∙ c.in-Some.is))), c.type_inv.entries (k * entry_width + 3)))

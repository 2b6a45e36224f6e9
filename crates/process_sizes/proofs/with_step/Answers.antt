-- `with_step` measures the join with what each kind of step joins. Assumes nothing.
use mathlib.Core.Path.{subst}
use Rattle.process_steps.specs.Promises.{EntryThere}
use Rattle.process_sizes.proofs.Profiles.{first_joined, second_joined, special_joined}
use Rattle.process_sizes.proofs.with_step.Goals as goal

pub rows_of_entry-requires : goal.rows_of_entry-requires
rows_of_entry-requires c = subst (EntryThere _) c.in-Special.is c.requires.entry_there

pub returns-in-First : goal.returns-in-First
returns-in-First c = first_joined _ _ _ c.in-First.is c.joined_profile.ensures

pub returns-in-Second : goal.returns-in-Second
returns-in-Second c = second_joined _ _ _ c.in-Second.is c.joined_profile-in-Second.ensures

pub returns-in-Special : goal.returns-in-Special
returns-in-Special c = special_joined _ _ _ _ _ c.in-Special.is c.rows_of_entry.ensures c.with_special.ensures

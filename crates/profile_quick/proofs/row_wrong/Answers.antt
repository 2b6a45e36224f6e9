-- `row_wrong` meets its contract: its tests are those of the definition, and where they say no, none of the four rules is broken. Assumes nothing.
use Rattle.profile_quick.proofs.Quick.{quick_at, quick_none}
use Rattle.profile_quick.proofs.row_wrong.Goals as goal

pub returns-clause-told : goal.returns-clause-told
returns-clause-told c = let a = c.args in quick_at a.words a.last a.rows.now a.at

pub returns-clause-none : goal.returns-clause-none
returns-clause-none c = let a = c.args in quick_none a.words a.last a.rows.now a.at

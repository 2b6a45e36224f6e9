-- An input whose pieces were fed one after another, from its beginning: what is held then of the bytes fed.
-- Assumes nothing: this is a definition.
use Rattle.std.specs.Prelude.{◌≡◌, ℕ, List, [], ◌++◌}
use Rattle.report_held.specs.Input.{report_of}
use Rattle.report_held.specs.Promises.{resumed}
use Rattle.report_held.specs.declared.Held.{Held}
use Rattle.report_input.specs.Promises.{Feeds}

-- nothing was fed to what `start` promises, and then one piece and another, each as `feed` promises
pub data Fed : List ℕ → Held → List ℕ → Type 0 where
  fed_none : {held : Held} (batch : List ℕ) → ((batch more : List ℕ) → resumed held batch more ≡ report_of more) → Fed [] held batch
  fed_more : {bytes piece : List ℕ} {held held' : Held} {batch batch' : List ℕ} → Fed bytes held batch → Feeds piece held batch held' batch' → Fed (bytes ++ piece) held' batch'

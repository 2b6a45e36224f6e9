-- What a replayed reading of a template says of the answers that a case stores.
-- Assumes nothing: these are definitions.
use Rattle.std.specs.Prelude.{◌≡◌, ℕ, ◌*◌, List, [], ◌∷◌, get_or, replicate}
use Rattle.template_text.specs.Template.{most_parts, piece_width, read_template, template_of}
use Rattle.c_crossing.specs.Crossing.{Crossed}
use Rattle.c_templates.specs.Answers.{template_crossed, template_fault}
use Rattle.replay_outputs.specs.Promises.{last_list_at}

-- the rest of a case is this refusal, the count, the part at fault and its place, and the pieces as a list
pub record StoredPieces (refusal : ℕ) (numbers fault rest : List ℕ) : Type 0 where
  pub refused : get_or rest 0 0 ≡ refusal
  pub part : get_or rest 2 0 ≡ get_or fault 0 0
  pub place : get_or rest 3 0 ≡ get_or fault 1 0
  pub pieces : get_or rest 1 0 ∷ last_list_at rest 4 ≡ numbers

-- what reading a text gives, with 7 in each lent number before
abbrev pub reading_of : List ℕ → Crossed
reading_of text = template_crossed (7 ∷ replicate (most_parts * piece_width) 7) (template_of (read_template text))

-- and what is told of a part at fault
abbrev pub fault_told : List ℕ → List ℕ
fault_told text = template_fault (7 ∷ 7 ∷ []) (template_of (read_template text))

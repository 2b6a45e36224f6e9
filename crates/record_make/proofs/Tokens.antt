-- The encoding of tokens: it is fine, its numbers, when it has room, and what `from_tokens` says then.
-- Assumes nothing.
use Rattle.record.specs.declared.Refusal.{Refusal}
use Rattle.record.specs.declared.Written.{Written}
use Rattle.std.specs.Prelude.{Ok, Result}
use mathlib.Core.Path.{◌≡◌, refl, sym, ap, ◌∙◌}
use mathlib.Core.Bool.{Bool, cond}
use mathlib.Core.Logic.{inl}
use Prim.Native.Nat.{ℕ, ◌-◌, ◌*◌, ◌/◌, ◌%◌, ◌≤◌}
use native.Mathlib.Omega.{arith}
use mathlib.Core.List.{List, [], ◌∷◌, flat_map, append-nil}
use lib.ListN.{length, replicate, length-replicate}
use lib.Seq.{sets}
use borrow.Author.Tests.{eq-eqb, ne_eqb}
use Rattle.record.specs.Tree.{Forest, forest, sequences, absent}
use Rattle.record.specs.Flat.{row_width, node_width, row_numbers, range_numbers, flat_nodes, flat_rows}
use Rattle.record.specs.WellFormed.{RangeFine, RowFine, Fine, nodes_in, rows_in, most_rows}
use Rattle.record.specs.Outcome.{Room, refused, in_room, Writes}
use Rattle.record.specs.declared.Refusal.TheVariants.{MalformedRecord, NoRoom}
use Rattle.record.proofs.Outcome.{in_room_lem, no_room, room_lengths, writes_done}
use Rattle.record_write.proofs.TokenRows.{token_rows}
use Rattle.record_write.specs.Tokens.{token_width, token_row}
use Rattle.record_make.specs.Making.{of_tokens, from_tokens}
use Rattle.record.proofs.Several.{length_several, all_several}
use Rattle.lists.proofs.All.{all_replicate}

module _ (t n : ℕ) (tokens : List ℕ) where
  abbrev token_forest : Forest
  token_forest = forest (of_tokens t n tokens ∷ [])

  rows_long : length (token_rows t n tokens) ≡ n
  rows_long = length_several (token_row t) token_width n tokens

  row_fine : (l : List ℕ) → RowFine (token_row t l)
  unfolding token_row
  row_fine l = (omega arith, inl (refl, refl))

  tokens_fine : Fine token_forest
  tokens_fine =
      (record { places = length-replicate sequences absent; ranges_fine = all_replicate (RangeFine (length (token_rows t n tokens))) sequences absent (inl refl); rows_fine = all_several (token_row t) token_width RowFine row_fine n tokens }, tt, tt)

  -- "then for each sequence id .. (zeros if absent)": the row count, then zeros
  tokens_nodes : flat_nodes token_forest ≡ n ∷ replicate (node_width - 1) 0
  unfolding flat_nodes flat_map range_numbers
  tokens_nodes = ap (λ (k : ℕ). k ∷ replicate (node_width - 1) 0) rows_long

  tokens_rows : flat_rows token_forest ≡ flat_map row_numbers (token_rows t n tokens)
  unfolding flat_rows
  tokens_rows = append-nil (flat_map row_numbers (token_rows t n tokens))

  tokens_counted : ◌≡◌ {A = Result Written Refusal} (Ok (record { nodes = 1; rows = n })) (Ok (record { nodes = nodes_in token_forest; rows = rows_in token_forest }))
  tokens_counted = let e = rows_long in ap (λ (m : ℕ). Ok (record { nodes = 1; rows = m })) (omega arith)

-- ---- The outcome

module _ (tokens : List ℕ) (t : ℕ) (nodes rows : List ℕ) where
  abbrev count : ℕ
  count = length tokens / token_width

  abbrev result : Forest
  result = token_forest t count tokens

  -- it has room: few enough rows, and an output that holds one node and its rows
  tokens_room : count ≤ most_rows → node_width ≤ length nodes → count * row_width ≤ length rows → Room nodes rows result
  tokens_room a b c =
      let e = rows_long t count tokens in
      record { fits = record { few_nodes = omega arith; few_rows = omega arith; few_levels = omega arith }; nodes_fit = omega arith; rows_fit = omega arith }

  pub tokens_malformed : (length tokens % token_width ≡ 0 → ⊥) → from_tokens tokens t nodes rows ≡ refused MalformedRecord
  unfolding from_tokens
  tokens_malformed h = ap (λ (b : Bool). cond b (in_room nodes rows result) (refused MalformedRecord)) (ne_eqb (length tokens % token_width) 0 h)

  whole : length tokens % token_width ≡ 0 → from_tokens tokens t nodes rows ≡ in_room nodes rows result
  unfolding from_tokens
  whole h = ap (λ (b : Bool). cond b (in_room nodes rows result) (refused MalformedRecord)) (eq-eqb (length tokens % token_width) 0 h)

  pub tokens_no_room : length tokens % token_width ≡ 0 → (count ≤ most_rows → node_width ≤ length nodes → count * row_width ≤ length rows → ⊥) → from_tokens tokens t nodes rows ≡ refused NoRoom
  tokens_no_room h full =
      let e = rows_long t count tokens in
      whole h ∙ no_room nodes rows result (λ r. full (omega (arith, r.fits.few_rows)) (omega (arith, r.nodes_fit)) (omega (arith, r.rows_fit)))

  -- the promise: the row count and zeros for the node, and the rows
  pub tokens_written : {nodes' rows' : List ℕ} → length tokens % token_width ≡ 0 → count ≤ most_rows → node_width ≤ length nodes → count * row_width ≤ length rows → nodes' ≡ sets nodes 0 (count ∷ replicate (node_width - 1) 0) → rows' ≡ sets rows 0 (flat_map row_numbers (token_rows t count tokens)) → Writes (from_tokens tokens t nodes rows) (Ok (record { nodes = 1; rows = count })) nodes rows nodes' rows'
  tokens_written h a b c n r =
      let room = tokens_room a b c in
      let lengths = room_lengths (tokens_fine t count tokens) room in
      writes_done result (whole h ∙ in_room_lem nodes rows result room) lengths.0 lengths.1 (tokens_counted t count tokens) (n ∙ ap (sets nodes 0) (sym (tokens_nodes t count tokens))) (r ∙ ap (sets rows 0) (sym (tokens_rows t count tokens)))

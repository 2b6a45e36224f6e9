-- A batch in bytes: how it stands among the numbers read, and that what follows it plays no part.
-- Assumes nothing.
use mathlib.Core.Path.{◌≡◌, ap, ap₂, ◌∙◌}
use Prim.Native.Nat.{ℕ, ◌+◌, ◌-◌, ◌*◌, ◌≤◌}
use native.Mathlib.Omega.{arith}
use mathlib.Core.List.{List, ◌++◌, append_assoc}
use lib.ListN.{length, take, drop, length-drop}
use lib.Seq.{sets, take_all, drop-drop, take_at, drop_at, drop-append-le}
use Rattle.lists.proofs.Sets.{sets_over}
use Rattle.record.specs.Flat.{row_width, node_width}
use Rattle.record.specs.Read.{read}
use Rattle.record.proofs.Several.{length_several}
use Rattle.words.specs.Words.{word_bytes, word_at, words_at}
use Rattle.words.proofs.Words.{word_first, words_first, words_add}
use Rattle.report_stored.specs.Stored.{head_bytes, node_words, row_words, stored_size, stored_batch}

-- ---- Among the numbers read

-- so many words of some bytes, put at the start of a list: the first are taken, and those after them
module _ (nodes rows : ℕ) (bytes numbers : List ℕ) (room : nodes + rows ≤ length numbers) {now : List ℕ} (e : now ≡ sets numbers 0 (words_at (nodes + rows) bytes)) where
  split : now ≡ words_at nodes bytes ++ (words_at rows (drop (nodes * word_bytes) bytes) ++ drop (nodes + rows) numbers)
  split =
      let long : length (words_at (nodes + rows) bytes) ≡ nodes + rows = length_several word_at word_bytes (nodes + rows) bytes in
      e ∙ sets_over numbers (words_at (nodes + rows) bytes) (omega arith)
      ∙ ap₂ (λ (l : List ℕ) (n : ℕ). l ++ drop n numbers) (words_add nodes rows bytes) long
      ∙ append_assoc (words_at nodes bytes) (words_at rows (drop (nodes * word_bytes) bytes)) (drop (nodes + rows) numbers)

  pub first_words : take nodes now ≡ words_at nodes bytes
  first_words = ap (take nodes) split ∙ take_at (words_at nodes bytes) _ nodes (length_several word_at word_bytes nodes bytes)

  pub other_words : take (nodes + rows - nodes) (drop nodes now) ≡ words_at rows (drop (nodes * word_bytes) bytes)
  other_words =
      let left : nodes + rows - nodes ≡ rows = omega arith in
      ap₂ (λ (n : ℕ) (l : List ℕ). take n (drop nodes l)) left split
      ∙ ap (take rows) (drop_at (words_at nodes bytes) _ nodes (length_several word_at word_bytes nodes bytes))
      ∙ take_at (words_at rows (drop (nodes * word_bytes) bytes)) _ rows (length_several word_at word_bytes rows (drop (nodes * word_bytes) bytes))

-- the batch is those: the bytes behind the counts are read to their end
pub batch_read : (bytes numbers : List ℕ) {n m : ℕ} {now : List ℕ} → n ≡ node_words bytes → m ≡ row_words bytes → n + m ≤ length numbers
    → now ≡ sets numbers 0 (words_at (n + m) (take (length bytes - head_bytes) (drop head_bytes bytes)))
    → read (take n now) (take (n + m - n) (drop n now)) ≡ stored_batch bytes
unfolding stored_batch
batch_read bytes numbers {n} {m} {now} p q room e =
    let rest = drop head_bytes bytes in
    let whole : take (length bytes - head_bytes) rest ≡ rest = take_all (length bytes - head_bytes) rest (omega (arith, length-drop head_bytes bytes)) in
    let is : now ≡ sets numbers 0 (words_at (n + m) rest) = e ∙ ap (λ (l : List ℕ). sets numbers 0 (words_at (n + m) l)) whole in
    ap₂ read
    (first_words n m rest numbers room is ∙ ap (λ (k : ℕ). words_at k rest) p)
    (other_words n m rest numbers room is
    ∙ ap (words_at m) (drop-drop (n * word_bytes) head_bytes bytes)
    ∙ ap₂ (λ (j k : ℕ). words_at j (drop (head_bytes + k * word_bytes) bytes)) q p)

-- ---- What follows it

module _ (bytes more : List ℕ) (h : head_bytes ≤ length bytes) where
  nodes_first : node_words (bytes ++ more) ≡ node_words bytes
  unfolding node_words
  nodes_first = ap (λ (n : ℕ). n * node_width) (word_first bytes more (omega arith))

  rows_first : row_words (bytes ++ more) ≡ row_words bytes
  unfolding row_words
  rows_first =
      ap (λ (n : ℕ). n * row_width)
      (ap word_at (drop-append-le word_bytes bytes more (omega arith)) ∙ word_first (drop word_bytes bytes) more (omega (arith, length-drop word_bytes bytes)))

  pub size_first : stored_size (bytes ++ more) ≡ stored_size bytes
  size_first = ap₂ (λ (n m : ℕ). head_bytes + (n + m) * word_bytes) nodes_first rows_first

  pub batch_first : stored_size bytes ≤ length bytes → stored_batch (bytes ++ more) ≡ stored_batch bytes
  unfolding stored_batch
  batch_first whole =
      let nodes = node_words bytes in
      let rows = row_words bytes in
      let at = head_bytes + nodes * word_bytes in
      ap₂ read
      (ap₂ (λ (n : ℕ) (l : List ℕ). words_at n l) nodes_first (drop-append-le head_bytes bytes more h)
      ∙ words_first nodes (drop head_bytes bytes) more (omega (arith, length-drop head_bytes bytes)))
      (ap₂ (λ (n m : ℕ). words_at m (drop (head_bytes + n * word_bytes) (bytes ++ more))) nodes_first rows_first
      ∙ ap (words_at rows) (drop-append-le at bytes more (omega arith))
      ∙ words_first rows (drop at bytes) more (omega (arith, length-drop at bytes)))

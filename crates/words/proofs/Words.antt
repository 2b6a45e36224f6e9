-- Words in bytes: which bytes one is made of, one more of several, and that what follows the bytes plays no part.
-- Assumes nothing.
use mathlib.Core.Path.{◌≡◌, refl, sym, ap, ap₂, ◌∙◌}
use Prim.Native.Nat.{ℕ, zero, suc, ◌+◌, ◌*◌, ◌≤◌}
use native.Mathlib.Numerals.{add-one}
use native.Mathlib.Nat.{zero-add, suc-add, zero-mul, suc-mul}
use native.Mathlib.Omega.{arith}
use mathlib.Core.List.{List, [], ◌∷◌, ◌++◌}
use lib.ListN.{length, get_or, drop, set, length-drop, get_or-append}
use lib.Seq.{sets, get_or-drop, drop-drop, drop-append-le}
use Rattle.lists.proofs.Sets.{sets_append}
use Rattle.record.specs.Read.{several}
use Rattle.record.proofs.Several.{length_several, several_more}
use Rattle.words.specs.Words.{word_bytes, word_at, words_at}

-- the word at a place, by its bytes
pub word_bytes_lem : (bytes : List ℕ) (at : ℕ) → word_at (drop at bytes) ≡ get_or bytes at 0 + get_or bytes (at + 1) 0 * 256 + (get_or bytes (at + 2) 0 + get_or bytes (at + 3) 0 * 256) * 65536
unfolding word_at
word_bytes_lem bytes at =
    let first : at + 0 ≡ at = omega arith in
    simp get_or-drop (rw first)

-- one more word
pub words_more : (bytes out : List ℕ) (i : ℕ) → set (sets out 0 (words_at i bytes)) i (word_at (drop (i * word_bytes) bytes)) ≡ sets out 0 (words_at (i + 1) bytes)
words_more bytes out i =
    let word = word_at (drop (i * word_bytes) bytes) in
    let there : i ≡ 0 + length (words_at i bytes) = omega (arith, length_several word_at word_bytes i bytes) in
    ap (λ (k : ℕ). set (sets out 0 (words_at i bytes)) k word) there
    ∙ sets_append out 0 (words_at i bytes) (word ∷ [])
    ∙ ap (sets out 0) (sym (several_more word_at word_bytes i bytes) ∙ ap (λ (k : ℕ). words_at k bytes) (sym (add-one i)))

-- what follows plays no part
pub word_first : (bytes more : List ℕ) → word_bytes ≤ length bytes → word_at (bytes ++ more) ≡ word_at bytes
unfolding word_at
word_first bytes more h =
    rw (get_or-append bytes more 0 0 (omega arith), get_or-append bytes more 0 1 (omega arith), get_or-append bytes more 0 2 (omega arith), get_or-append bytes more 0 3 (omega arith))

pub words_first : (count : ℕ) (bytes more : List ℕ) → count * word_bytes ≤ length bytes → words_at count (bytes ++ more) ≡ words_at count bytes
unfolding several
words_first zero bytes more h = refl
words_first (suc count) bytes more h =
    let whole : word_bytes + count * word_bytes ≤ length bytes = omega (arith, suc-mul count word_bytes) in
    ap₂ ◌∷◌ (word_first bytes more (omega arith))
    (ap (words_at count) (drop-append-le word_bytes bytes more (omega arith)) ∙ words_first count (drop word_bytes bytes) more (omega (arith, length-drop word_bytes bytes)))

-- some words, and then others
pub words_add : (some others : ℕ) (bytes : List ℕ) → words_at (some + others) bytes ≡ words_at some bytes ++ words_at others (drop (some * word_bytes) bytes)
unfolding several
words_add zero others bytes = ap₂ (λ (n k : ℕ). words_at n (drop k bytes)) (zero-add others) (sym (zero-mul word_bytes))
words_add (suc some) others bytes =
    let next : word_bytes + some * word_bytes ≡ suc some * word_bytes = omega (arith, suc-mul some word_bytes) in
    ap (λ (n : ℕ). several word_at word_bytes n bytes) (suc-add some others)
    ∙ ap (word_at bytes ∷◌) (words_add some others (drop word_bytes bytes) ∙ ap (λ (l : List ℕ). words_at some (drop word_bytes bytes) ++ words_at others l) (drop-drop (some * word_bytes) word_bytes bytes ∙ ap (λ (n : ℕ). drop n bytes) next))

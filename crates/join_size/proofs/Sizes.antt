-- How much a result takes: from what was measured, of two encodings without windows, and whether it has room.
-- Assumes nothing.
use mathlib.Core.Path.{◌≡◌, refl, sym, ap, ◌∙◌}
use mathlib.Core.Bool.{Bool, true, false, false≢true}
use mathlib.Core.List.{List, [], ◌∷◌, append-nil}
use Prim.Native.Nat.{ℕ, ◌+◌, ◌*◌, ◌≤◌}
use native.Mathlib.Omega.{arith}
use lib.Dec.{leb}
use lib.ListN.{length, get_or, length-append}
use borrow.Author.Tests.{leb-true, leb-false}
use Rattle.record.specs.Tree.{Encoding, forest, windows}
use Rattle.record.specs.Flat.{row_width, node_width, flat_nodes, flat_rows}
use Rattle.record.specs.WellFormed.{most_rows}
use Rattle.record.specs.Standing.{At}
use Rattle.record.specs.Outcome.{Room}
use Rattle.record.proofs.Flat.{length_nodes}
use Rattle.record.proofs.Standing.{at_size, at_count}
use Rattle.join_trees.specs.Join.{join}
use Rattle.join_levels.specs.declared.Profile.{Profile}
use Rattle.std.specs.Prelude.{None, Some}
use Rattle.join_levels.specs.Levels.{Profiled, Measured, Measures}
use Rattle.join_levels_stored.specs.Promises.{ProfilesAt, CountsNodes, CountsRows, EncodingAt}
use Rattle.record_room.specs.declared.Size.{Size}
use Rattle.record_room.specs.Room.{has_room}
use Rattle.join_size.specs.Promises.{Takes, Sizes, AskSize}
use Rattle.record_room.proofs.Room.{tells_room}
use Rattle.join_trees.proofs.Windowless.{join_plain_nodes, join_plain_rows, join_plain_levels}

-- ---- Room

module _ {E : Encoding} {s : Size} (sized : Sizes E s) (nodes rows : List ℕ) where
  pub roomy_takes : has_room s (length nodes) (length rows) ≡ true → Takes E s
  roomy_takes e = sized.fitting ((tells_room s (length nodes) (length rows)).so e).0

  pub roomy_room : has_room s (length nodes) (length rows) ≡ true → Room nodes rows (forest (E ∷ []))
  roomy_room e =
      let (f, n, m) = (tells_room s (length nodes) (length rows)).so e in
      let t = sized.fitting f in
      record { fits = t.limits; nodes_fit = omega (arith, ap (◌* node_width) t.nodes); rows_fit = omega (arith, ap (◌* row_width) t.rows) }

  pub not_roomy : has_room s (length nodes) (length rows) ≡ false → Room nodes rows (forest (E ∷ [])) → ⊥
  not_roomy e r = go s.fits refl
    where
      go : (b : Bool) → s.fits ≡ b → ⊥
      go false f = sized.too_large f r.fits
      go true f =
          let t = sized.fitting f in
          false≢true (sym e ∙ (tells_room s (length nodes) (length rows)).back (f, omega (arith, ap (◌* node_width) t.nodes, r.nodes_fit), omega (arith, ap (◌* row_width) t.rows, r.rows_fit)))

-- ---- What was measured

pub measured_profiled : (E : Encoding) (r : Measured) → Measures E r → AskSize r
measured_profiled E None large = tt
measured_profiled E (Some p) (o, f) = record { E = E; is = o; fits = f }

pub sizes_measured : (E : Encoding) {p : Profile} {n m : ℕ} → Measures E (Some p) → CountsNodes p n → CountsRows p m → Sizes E (record { fits = true; nodes = n; rows = m })
sizes_measured E (o, f) counts counts_rows =
    record { fitting = λ _. record { nodes = counts E o; rows = counts_rows E o; limits = f }; too_large = λ z. absurd (let y : ◌≡◌ {A = ℕ} 0 1 = cc in omega arith) }

pub sizes_too_large : (E : Encoding) {n m : ℕ} → Measures E None → Sizes E (record { fits = false; nodes = n; rows = m })
sizes_too_large E large = record { fitting = λ z. absurd (let y : ◌≡◌ {A = ℕ} 0 1 = cc in omega arith); too_large = λ _. large }

-- ---- Two encodings without windows

-- the encoding at the beginning of a list of nodes, by its two counts
module _ {nodes : List ℕ} {E : Encoding} (h : EncodingAt nodes 0 E) where
  at_front : At nodes (flat_rows (forest (E ∷ []))) 0 0 (forest (E ∷ []))
  at_front = record { rest = h.there.rest; is = h.there.is; rest_rows = []; is_rows = sym (append-nil (flat_rows (forest (E ∷ [])))) }

  pub front_long : node_width ≤ length nodes
  front_long = omega (arith, ap length h.there.is, length-append (flat_nodes (forest (E ∷ []))) h.there.rest, length_nodes (forest (E ∷ [])) h.well.fine)

  pub front_profiled : {p : Profile} → ProfilesAt nodes 0 p → Profiled p
  front_profiled o = record { E = E; is = o E h; fits = h.well.fits }

  pub front_size : get_or nodes 0 0 ≡ length E.rows
  front_size = at_size at_front

  pub front_count : get_or nodes 1 0 ≡ length (windows E)
  front_count = at_count at_front

pub sizes_plain : (g : Bool) (S P : Encoding) (n : ℕ) → length (windows S) ≡ 0 → length (windows P) ≡ 0 → n ≡ length S.rows + length P.rows → Sizes (join g S P) (record { fits = leb n most_rows; nodes = 1; rows = n })
sizes_plain g S P n s p e =
    let r = join_plain_rows g S P s p in
    let k = join_plain_nodes g S P s p in
    let l = join_plain_levels g S P s p in
    record {
      fitting = λ t. record { nodes = sym k; rows = e ∙ sym r; limits = record { few_nodes = omega arith; few_rows = omega (arith, leb-true n most_rows t); few_levels = omega arith } };
      too_large = λ t f. omega (arith, leb-false n most_rows t, f.few_rows);
    }

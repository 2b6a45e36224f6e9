-- An encoding that stands at a place: what asks for its first window and for what follows it, and what they tell.
-- Assumes nothing.
use mathlib.Core.Path.{◌≡◌, sym, ◌∙◌}
use mathlib.Core.List.{List, [], ◌∷◌}
use Prim.Native.Nat.{ℕ, ◌+◌, ◌*◌, ◌≤◌}
use native.Mathlib.Omega.{arith}
use lib.ListN.{length, get_or}
use Rattle.record.specs.Tree.{Encoding, forest, tops}
use Rattle.record.specs.Flat.{row_width, node_width}
use Rattle.record.specs.WellFormed.{nodes_in, rows_in}
use Rattle.record.specs.Standing.{spot, Here}
use Rattle.record.proofs.Standing.{at_count}
use Rattle.record.proofs.Here.{here_size, here_below, here_nodes_fit, here_rows_fit}
use Rattle.record_extent.specs.Promises.{Stands}
use Rattle.record_extent.proofs.Stands.{here_stands}
use Rattle.record.specs.declared.Spot.{Spot}
use Rattle.join_walk.specs.Promises.{most_place, AskDown, first_window, AskWalk, Follows}

module _ {nodes rows : List ℕ} {s : Spot} {E : Encoding} (h : Here nodes rows s.node s.row (forest (E ∷ []))) where
  pub one_fits : s.node + node_width ≤ length nodes
  one_fits = omega (arith, here_nodes_fit h)

  pub ask_down : length rows ≤ most_place → AskDown nodes s
  ask_down l = record { nodes_fit = one_fits; rows_fit = omega (arith, here_size h, here_rows_fit h) }

  -- its windows
  pub windows_there : {w : Spot} → w ≡ first_window nodes s → Here nodes rows w.node w.row E.below
  windows_there {w} e = rw (e, here_size h) (here_below h)

  pub windows_many : {k : ℕ} → k ≡ get_or nodes (s.node + 1) 0 → tops E.below ≡ k
  windows_many e = sym (e ∙ at_count h.at)

  stands : Stands nodes s.node 1 (forest (E ∷ []))
  stands = here_stands h

  pub ask_next : length rows ≤ most_place → AskWalk nodes s
  ask_next l = record { E = E; stands = stands; nodes_fit = here_nodes_fit h; rows_fit = omega (arith, here_rows_fit h) }

  pub follows : {r : Spot} → Follows nodes s r → r ≡ spot (s.node + nodes_in (forest (E ∷ [])) * node_width) (s.row + rows_in (forest (E ∷ [])) * row_width)
  follows f = f E stands

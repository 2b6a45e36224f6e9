-- Demand 3 of what both ways leave, from the four calls that they make.
-- Assumes nothing.
use Rattle.record.specs.declared.Refusal.{Refusal}
use Rattle.std.specs.Prelude.{Result, Err, Ok}
use mathlib.Core.Path.{◌≡◌, refl}
use mathlib.Core.Bool.{Bool}
use mathlib.Core.List.{List, [], ◌∷◌}
use Prim.Native.Nat.{ℕ}
use native.Mathlib.Omega.{arith}
use Rattle.record.specs.Tree.{Encoding, forest}
use Rattle.record.specs.Standing.{One}
use Rattle.record.specs.declared.Written.{Written}
use Rattle.record.proofs.Read.{stored}
use Rattle.join_trees.proofs.Outcomes.{join_told}
use Rattle.join.specs.Demand.{Called, Call, FourCalls}
use Rattle.join.proofs.Demand.{call_left, demand}
use Rattle.join_next.specs.Next.{Stopped, Next}
use Rattle.join_three.specs.Ways.{LeftWay, RightWay}
use Rattle.join_three.proofs.Ways.{call}
use Rattle.join_grouping.specs.Grouping.{SameBothWays}

-- what a call joined
operands : {g : Bool} {xs rs ys ss : List ℕ} → Call g xs rs ys ss → (S : Encoding) × (P : Encoding) × One xs rs S × One ys ss P
operands {g} {xs} {rs} {ys} {ss} c =
    let j = join_told _ _ _ _ _ (call_left c).wrote.is in
    (j.S, j.P, record { stores = stored xs rs (forest (j.S ∷ [])) j.first_is }, record { stores = stored ys ss (forest (j.P ∷ [])) j.second_is })

module _ {g : Bool} {A A' B B' C C' : List ℕ} where
  -- four calls, none of them refused
  four_same : (four : FourCalls g A A' B B' C C') → let l = four.ab_with_c in let r = four.a_with_bc in SameBothWays A A' B B' C C' l.nodes_after l.rows_after r.nodes_after r.rows_after l.node_count l.row_count r.node_count r.row_count
  four_same four =
      let (EA, EB, a, b) = operands four.a_with_b in
      let (_, EC, _, c) = operands four.b_with_c in
      let d = demand g A A' B B' C C' EA EB EC a b c four in
      record {
        A = EA;
        B = EB;
        C = EC;
        a_stored = a;
        b_stored = b;
        c_stored = c;
        alike = d.alike;
        exact = λ w. let s = d.exact w in (s.same_node_count, s.same_row_count, s.same_nodes, s.same_rows);
      }

  pub both_same : {ab ab_rows left left_rows ab' ab_rows' left' left_rows' bc bc_rows right right_rows bc' bc_rows' right' right_rows' : List ℕ} {n m i j : ℕ}
      → LeftWay g A A' B B' C C' ab ab_rows left left_rows ab' ab_rows' left' left_rows' (Ok (record { nodes = n; rows = m })) → RightWay g A A' B B' C C' bc bc_rows right right_rows bc' bc_rows' right' right_rows' (Ok (record { nodes = i; rows = j }))
      → SameBothWays A A' B B' C C' left' left_rows' right' right_rows' n m i j
  both_same {ab} {ab_rows} {left} {left_rows} {ab'} {ab_rows'} {left'} {left_rows'} {bc} {bc_rows} {right} {right_rows} {bc'} {bc_rows'} {right'} {right_rows'} {n} {m} {i} {j} l r = go l.first r.first l.a_with_b l.ab_with_c r.b_with_c r.a_with_bc
    where
      go : (v w : Result Written Refusal) → Called g A A' B B' ab ab_rows ab' ab_rows' v → Next v ab' ab_rows' (λ k. Stopped k (Ok (record { nodes = n; rows = m })) left left_rows left' left_rows') (λ xs rs. Called g xs rs C C' left left_rows left' left_rows' (Ok (record { nodes = n; rows = m })))
          → Called g B B' C C' bc bc_rows bc' bc_rows' w → Next w bc' bc_rows' (λ k. Stopped k (Ok (record { nodes = i; rows = j })) right right_rows right' right_rows') (λ xs rs. Called g A A' xs rs right right_rows right' right_rows' (Ok (record { nodes = i; rows = j })))
          → SameBothWays A A' B B' C C' left' left_rows' right' right_rows' n m i j
      go (Err k) w c s d t = absurd (let z : ◌≡◌ {A = ℕ} 0 1 = cc s.answers in omega arith)
      go (Ok v) (Err k) c s d t = absurd (let z : ◌≡◌ {A = ℕ} 0 1 = cc t.answers in omega arith)
      go (Ok v) (Ok w) c s d t = four_same (record { a_with_b = call c v.nodes v.rows refl; ab_with_c = call s n m refl; b_with_c = call d w.nodes w.rows refl; a_with_bc = call t i j refl })

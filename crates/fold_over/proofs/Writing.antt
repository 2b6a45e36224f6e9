-- Encodings written from the front of two lists: one over another, read back, and copied from a store to another.
-- Assumes nothing.
use mathlib.Core.Path.{◌≡◌, sym, ap, ◌∙◌}
use mathlib.Core.List.{List, [], ◌∷◌}
use Prim.Native.Nat.{ℕ, ◌*◌, ◌≤◌}
use native.Mathlib.Omega.{arith}
use native.Mathlib.Nat.{mul-le-mul_right}
use lib.ListN.{length, take, drop}
use lib.Seq.{sets, length-sets}
use Rattle.record.specs.Tree.{Forest, Encoding, forest}
use Rattle.record.specs.Flat.{row_width, node_width, flat_nodes, flat_rows}
use Rattle.record.specs.WellFormed.{Fine, WellFormed, nodes_in, rows_in}
use Rattle.record.specs.Standing.{Here, Put}
use Rattle.record.specs.Outcome.{Room}
use Rattle.record.proofs.Flat.{length_nodes, length_rows}
use Rattle.record.proofs.Outcome.{room_lengths}
use Rattle.lists.proofs.Sets.{sets_over}
use Rattle.lists.proofs.Written.{sets_again, taken_back}
use Rattle.join_trees.proofs.Sizes.{NoMore}

-- ---- Room goes by lengths

pub room_kept : {nodes rows nodes' rows' : List ℕ} {f : Forest} → length nodes' ≡ length nodes → length rows' ≡ length rows → Room nodes rows f → Room nodes' rows' f
room_kept a b r = record { fits = r.fits; nodes_fit = omega (arith, r.nodes_fit); rows_fit = omega (arith, r.rows_fit) }

-- ---- Encodings

module _ {nodes rows nodes₁ rows₁ : List ℕ} {E : Encoding} where
  -- writing changes no length
  pub put_lengths : Put (E ∷ []) nodes 0 rows 0 nodes₁ rows₁ → (length nodes₁ ≡ length nodes) × (length rows₁ ≡ length rows)
  put_lengths p = (ap length p.nodes_put ∙ length-sets nodes 0 (flat_nodes (forest (E ∷ []))), ap length p.rows_put ∙ length-sets rows 0 (flat_rows (forest (E ∷ []))))

  pub put_room : {f : Forest} → Put (E ∷ []) nodes 0 rows 0 nodes₁ rows₁ → Room nodes rows f → Room nodes₁ rows₁ f
  put_room p r = let l = put_lengths p in room_kept l.0 l.1 r

  pub put_room_back : {f : Forest} → Put (E ∷ []) nodes 0 rows 0 nodes₁ rows₁ → Room nodes₁ rows₁ f → Room nodes rows f
  put_room_back p r = let l = put_lengths p in room_kept (sym l.0) (sym l.1) r

  -- one that was written is there, as if it were written again
  pub put_same : Put (E ∷ []) nodes 0 rows 0 nodes₁ rows₁ → Fine (forest (E ∷ [])) → Room nodes rows (forest (E ∷ [])) → Put (E ∷ []) nodes₁ 0 rows₁ 0 nodes₁ rows₁
  put_same p fine room =
      let l = room_lengths fine room in
      let G = forest (E ∷ []) in
      record {
        nodes_put = p.nodes_put ∙ sym (ap (λ (k : List ℕ). sets k 0 (flat_nodes G)) p.nodes_put ∙ sets_again nodes 0 (flat_nodes G) (flat_nodes G) (omega arith) (omega (arith, l.0)));
        rows_put = p.rows_put ∙ sym (ap (λ (k : List ℕ). sets k 0 (flat_rows G)) p.rows_put ∙ sets_again rows 0 (flat_rows G) (flat_rows G) (omega arith) (omega (arith, l.1)));
      }

  -- one that was written stands there
  pub put_here : Put (E ∷ []) nodes 0 rows 0 nodes₁ rows₁ → WellFormed (forest (E ∷ [])) → Room nodes rows (forest (E ∷ [])) → Here nodes₁ rows₁ 0 0 (forest (E ∷ []))
  put_here p w r =
      let l = room_lengths w.fine r in
      record {
        at = record {
          rest = drop (length (flat_nodes (forest (E ∷ [])))) nodes;
          is = p.nodes_put ∙ sets_over nodes (flat_nodes (forest (E ∷ []))) l.0;
          rest_rows = drop (length (flat_rows (forest (E ∷ [])))) rows;
          is_rows = p.rows_put ∙ sets_over rows (flat_rows (forest (E ∷ []))) l.1;
        };
        on = omega arith;
        well = w;
      }

  -- one written over another that is no larger
  pub put_again : {F : Encoding} {nodes₂ rows₂ : List ℕ} → Put (E ∷ []) nodes 0 rows 0 nodes₁ rows₁ → Fine (forest (E ∷ [])) → Fine (forest (F ∷ [])) → NoMore (forest (E ∷ [])) (forest (F ∷ [])) → Room nodes rows (forest (F ∷ [])) → Put (F ∷ []) nodes₁ 0 rows₁ 0 nodes₂ rows₂ → Put (F ∷ []) nodes 0 rows 0 nodes₂ rows₂
  put_again {F} p fe ff less room q =
      let l = room_lengths ff room in
      let G = forest (E ∷ []) in
      let H = forest (F ∷ []) in
      record {
        nodes_put = q.nodes_put ∙ ap (λ (k : List ℕ). sets k 0 (flat_nodes H)) p.nodes_put ∙ sets_again nodes 0 (flat_nodes G) (flat_nodes H) (omega (arith, length_nodes G fe, length_nodes H ff, mul-le-mul_right node_width less.nodes)) (omega (arith, l.0));
        rows_put = q.rows_put ∙ ap (λ (k : List ℕ). sets k 0 (flat_rows H)) p.rows_put ∙ sets_again rows 0 (flat_rows G) (flat_rows H) (omega (arith, length_rows G, length_rows H, mul-le-mul_right row_width less.rows)) (omega (arith, l.1));
      }

  -- one written into a working store, and as many numbers copied from there
  pub put_copied : {working working' working₁ working₁' : List ℕ} {n m : ℕ} → Put (E ∷ []) working 0 working' 0 working₁ working₁' → Fine (forest (E ∷ [])) → n ≡ nodes_in (forest (E ∷ [])) * node_width → m ≡ rows_in (forest (E ∷ [])) * row_width → n ≤ length working → m ≤ length working'
      → nodes₁ ≡ sets nodes 0 (take n (drop 0 working₁)) → rows₁ ≡ sets rows 0 (take m (drop 0 working₁')) → Put (E ∷ []) nodes 0 rows 0 nodes₁ rows₁
  put_copied {working} {working'} {working₁} {working₁'} {n} {m} p fine en em ln lm qn qm =
      let G = forest (E ∷ []) in
      let kn : length (flat_nodes G) ≡ n = omega (arith, length_nodes G fine) in
      let km : length (flat_rows G) ≡ m = omega (arith, length_rows G) in
      record {
        nodes_put = qn ∙ ap (sets nodes 0) (ap (λ (k : List ℕ). take n (drop 0 k)) p.nodes_put ∙ taken_back working (flat_nodes G) n (omega arith) kn);
        rows_put = qm ∙ ap (sets rows 0) (ap (λ (k : List ℕ). take m (drop 0 k)) p.rows_put ∙ taken_back working' (flat_rows G) m (omega arith) km);
      }

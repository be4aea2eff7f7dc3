-- That edits keep the limits.
-- Assumes nothing.
use Rattle.std.proofs.Common.{◌≡◌, ℕ, suc, ◌+◌, ◌<◌, ◌≤◌, List, [], ◌∷◌, ◌++◌, length, get_or, take, drop, set, subst, arith, length-append, length-drop, length-set, length-take, get_or-set_same}
use lib.Seq.{get_or-append_seam}
use Rattle.std.proofs.ByRecursion.{All-get_or, All-from_get_or, All-push, All-set, All-append, All-take, All-drop}
use Rattle.std.specs.List.{remove, AllByRecursion}
use Rattle.network.specs.declared.pipe.Pipe.{Pipe}
use Rattle.network.specs.Limits.{no_pipe, max_nodes, max_pipes, WeightFits, PipeFits, PipesFit, Limits}

-- what holds of each element of a list holds after a push, a write and a removal; d stands for an element past the end
module _ {X : Type 0} (P : X → Type 0) (d : X) where
  abbrev pub EachFits : List X → Type 0
  EachFits xs = (k : ℕ) → k < length xs → P (get_or xs k d)

  all_fit : (xs : List X) → EachFits xs → AllByRecursion P xs
  all_fit xs h = All-from_get_or P xs d h

  each_fits : (xs : List X) → AllByRecursion P xs → EachFits xs
  each_fits xs h k l = All-get_or P xs k d l h

  pub fits_push : (xs : List X) (x : X) → EachFits xs → P x → EachFits (xs ++ x ∷ [])
  fits_push xs x h f = each_fits _ (All-push P xs x (all_fit xs h) f)

  pub fits_set : (xs : List X) (i : ℕ) (x : X) → EachFits xs → P x → EachFits (set xs i x)
  fits_set xs i x h f = each_fits _ (All-set P xs i x f (all_fit xs h))

  pub fits_removed : (xs : List X) (i : ℕ) → EachFits xs → EachFits (remove xs i)
  fits_removed xs i h =
      let all = all_fit xs h in
      each_fits _ (All-append P (take i xs) (drop (suc i) xs) (All-take P i xs all) (All-drop P (suc i) xs all))

  -- what was pushed or written fits too
  pub pushed_fits : (xs : List X) (x : X) → EachFits (xs ++ x ∷ []) → P x
  pushed_fits xs x h =
      let l : length xs < length (xs ++ x ∷ []) = omega (arith, length-append xs (x ∷ [])) in
      subst P (get_or-append_seam xs x [] d) (h (length xs) l)

  pub written_fits : (xs : List X) (i : ℕ) (x : X) → i < length xs → EachFits (set xs i x) → P x
  written_fits xs i x l h = subst P (get_or-set_same xs i x d l) (h i (omega (arith, length-set xs i x)))

-- with more nodes each pipe still fits
pipes_more : (m n : ℕ) (ps : List (Pipe ℕ)) → m ≤ n → PipesFit m ps → PipesFit n ps
pipes_more m n ps le h k l = let f = h k l in (omega arith, omega arith, f.2, f.3, f.4)

-- each edit of the lists keeps the limits
pub add_keeps : (ws vs : List ℕ) (ps : List (Pipe ℕ)) (w : ℕ) → vs ≡ ws ++ w ∷ [] → Limits ws ps → length ws < max_nodes → WeightFits w → Limits vs ps
add_keeps ws vs ps w e h room f =
    let n : length (ws ++ w ∷ []) ≡ length ws + 1 = length-append ws (w ∷ []) in
    rw e (omega arith, h.1, fits_push WeightFits 0 ws w h.2 f, pipes_more (length ws) (length (ws ++ w ∷ [])) ps (omega arith) h.3)

pub weigh_keeps : (ws : List ℕ) (ps : List (Pipe ℕ)) (v w : ℕ) → Limits ws ps → WeightFits w → Limits (set ws v w) ps
weigh_keeps ws ps v w h f =
    let n : length (set ws v w) ≡ length ws = length-set ws v w in
    (omega arith, h.1, fits_set WeightFits 0 ws v w h.2 f, pipes_more (length ws) (length (set ws v w)) ps (omega arith) h.3)

pub join_keeps : (ws : List ℕ) (ps qs : List (Pipe ℕ)) (p : Pipe ℕ) → qs ≡ ps ++ p ∷ [] → Limits ws ps → length ps < max_pipes → PipeFits (length ws) p → Limits ws qs
join_keeps ws ps qs p e h room f =
    let n : length (ps ++ p ∷ []) ≡ length ps + 1 = length-append ps (p ∷ []) in
    rw e (h.0, omega arith, h.2, fits_push (PipeFits (length ws)) no_pipe ps p h.3 f)

pub remove_keeps : (ws : List ℕ) (ps qs : List (Pipe ℕ)) (i : ℕ) → qs ≡ remove ps i → Limits ws ps → Limits ws qs
remove_keeps ws ps qs i e h =
    let n : length (take i ps ++ drop (suc i) ps) ≤ length ps = simp (length-append, length-take, length-drop) (omega arith) in
    rw e (h.0, omega arith, h.2, fits_removed (PipeFits (length ws)) no_pipe ps i h.3)

-- The part of a list between two places, as a queue moves them.
-- Assumes nothing.
use Rattle.std.proofs.Common.{◌≡◌, ℕ, suc, ◌+◌, ◌-◌, ◌<◌, ◌≤◌, List, [], ◌∷◌, ◌++◌, length, get_or, take, drop, set, ap, ◌∙◌, arith, length-drop}
use Rattle.std.proofs.lemmas.List.{drop-set-add, take_more_set, drop_more}
use Rattle.std.specs.List.{between}

module _ {X : Type 0} (xs : List X) (i : ℕ) where
  pub between_push : (j : ℕ) (x : X) → i ≤ j → j < length xs → between i (j + 1) (set xs j x) ≡ between i j xs ++ x ∷ []
  between_push j x le lt =
      let e : j ≡ i + (j - i) = omega arith in
      let n : (j + 1) - i ≡ (j - i) + 1 = omega arith in
      let l : j - i < length (drop i xs) = simp length-drop (omega arith) in
      ap (λ m. take ((j + 1) - i) (drop i (set xs m x))) e
      ∙ ap (λ m. take m (drop i (set xs (i + (j - i)) x))) n
      ∙ ap (take ((j - i) + 1)) (drop-set-add i xs (j - i) x)
      ∙ take_more_set (drop i xs) (j - i) x l

  pub between_pop : (j : ℕ) (d : X) → i < j → j ≤ length xs → between i j xs ≡ get_or xs i d ∷ between (i + 1) j xs
  between_pop j d lt le =
      let n : j - i ≡ suc (j - (i + 1)) = omega arith in
      let h : i < length xs = omega arith in
      ap (λ m. take m (drop i xs)) n ∙ ap (take (suc (j - (i + 1)))) (drop_more xs i d h)

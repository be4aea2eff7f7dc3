-- Weights of sets of nodes: how they add up.
-- Assumes nothing.
use Rattle.std.proofs.Common.{◌≡◌, ℕ, zero, suc, ◌+◌, Bool, true, not, ◌&&◌, length, get_or, arith}
use Rattle.network.specs.Net.{Net, Nodes, when, below, complement, within, without, everywhere, weight_in, weight, total}
use Rattle.network.specs.Laws.{SidesMakeTheWhole}
use Rattle.network.specs.Scores.{remainder, inside, outside}

below_plus : (f g h : ℕ → ℕ) → ((v : ℕ) → f v + g v ≡ h v) → (n : ℕ) → below n f + below n g ≡ below n h
unfolding below
below_plus f g h e zero = omega arith
below_plus f g h e (suc n) = omega (arith, below_plus f g h e n, e n)

module _ (net : Net) where
  -- two sets that make up a third
  pub joined : (X Y Z : Nodes) → ((v w : ℕ) → when (X v) w + when (Y v) w ≡ when (Z v) w) → weight net X + weight net Y ≡ weight net Z
  unfolding weight_in
  joined X Y Z e = below_plus _ _ _ (λ v. e v (get_or net.weights v 0)) (length net.weights)

  whole : (X : Nodes) → weight net X + weight net (complement X) ≡ total net
  whole X = joined X (complement X) everywhere (λ v w. both_sides (X v) w)
    where
      both_sides : (x : Bool) (w : ℕ) → when x w + when (not x) w ≡ when true w
      both_sides x w = grind arith

  module _ (A : Nodes) where
    pub parts : (X : Nodes) → inside net A X + outside net A X ≡ weight net X
    unfolding inside outside
    parts X = joined (within A X) (without A X) X (λ v w. split (X v) (A v) w)
      where
        split : (x a : Bool) (w : ℕ) → when (x && a) w + when (x && not a) w ≡ when x w
        split x a w = grind arith

    -- what X and its complement have inside the proposal is the proposal, and what they have outside is the remainder
    pub insides : (X : Nodes) → inside net A X + inside net A (complement X) ≡ weight net A
    unfolding inside
    insides X = joined (within A X) (within A (complement X)) A (λ v w. split (X v) (A v) w)
      where
        split : (x a : Bool) (w : ℕ) → when (x && a) w + when (not x && a) w ≡ when a w
        split x a w = grind arith

    pub outsides : (X : Nodes) → outside net A X + outside net A (complement X) ≡ remainder net A
    unfolding outside remainder
    outsides X = joined (without A X) (without A (complement X)) (complement A) (λ v w. split (X v) (A v) w)
      where
        split : (x a : Bool) (w : ℕ) → when (x && not a) w + when (not x && not a) w ≡ when (not a) w
        split x a w = grind arith

pub sides_make_the_whole : SidesMakeTheWhole
sides_make_the_whole = whole

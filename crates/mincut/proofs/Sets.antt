-- Sets that have the same nodes have the same capacity.
-- Assumes nothing.
use Rattle.std.proofs.Common.{◌≡◌, ℕ, zero, suc, ◌<◌, Bool, not, List, [], ◌∷◌, length, get_or, sum_by, refl, ap, arith}
use Rattle.std.proofs.lemmas.List.Sums.{sum_by-cons}
use Rattle.network.specs.Net.{Nodes, below, complement, exactly_one, when, weight_in as sum_in}
use Rattle.network.specs.declared.pipe.Pipe.{Pipe}
use Rattle.mincut.specs.Flow.{Flow, capacity}
use Rattle.network.specs.Net.{adds, cost_across}
use Rattle.network.specs.Limits.{no_pipe}
use Rattle.mincut.proofs.Checking.{Accepted, GoodPipe}

-- sums of equal terms
pub below_same : (n : ℕ) (f g : ℕ → ℕ) → ((v : ℕ) → v < n → f v ≡ g v) → below n f ≡ below n g
unfolding below
below_same zero f g e = refl
below_same (suc n) f g e = omega (arith, e n (omega arith), below_same n f g (λ v h. e v (omega arith)))

pub sum_by_same : {T : Type 0} (f g : T → ℕ) (d : T) (xs : List T) → ((k : ℕ) → k < length xs → f (get_or xs k d) ≡ g (get_or xs k d)) → sum_by f xs ≡ sum_by g xs
sum_by_same f g d [] e = refl
sum_by_same f g d (x ∷ xs) e =
    omega (arith, sum_by-cons f x xs, sum_by-cons g x xs, e 0 (omega arith), sum_by_same f g d xs (λ k h. e (suc k) (omega arith)))

sum_in_same : (xs : List ℕ) (X Y : Nodes) → ((v : ℕ) → v < length xs → X v ≡ Y v) → sum_in xs X ≡ sum_in xs Y
unfolding sum_in
sum_in_same xs X Y e = below_same (length xs) _ _ (λ v h. ap (λ (b : Bool). when b (get_or xs v 0)) (e v h))

pub capacity_same : (net : Flow) (m : ℕ) → Accepted net m → (X Y : Nodes) → ((v : ℕ) → v < net.nodes → X v ≡ Y v) → capacity net X ≡ capacity net Y
unfolding capacity cost_across
capacity_same net m ok X Y e =
    let inside = sum_in_same net.sinks X Y (λ v h. e v (omega (arith, ok.sinks))) in
    let outside = sum_in_same net.sources (complement X) (complement Y) (λ v h. ap not (e v (omega (arith, ok.sources)))) in
    let across = sum_by_same (adds X) (adds Y) no_pipe net.pipes (λ k h. pipe_same (get_or net.pipes k no_pipe) (ok.ends k h)) in
    omega arith
  where
    pipe_same : (p : Pipe ℕ) → GoodPipe net.nodes p → adds X p ≡ adds Y p
    pipe_same p g i = when (exactly_one (e p.first g.0 i) (e p.second g.1 i)) p.cost

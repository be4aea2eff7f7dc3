-- The sum that tests a flow network, and what holds of one that no solver refuses.
-- Assumes nothing.
use Rattle.std.proofs.Common.{◌≡◌, ℕ, zero, suc, ◌+◌, ◌<◌, ◌≤◌, min, false, List, [], ◌∷◌, length, get_or, map, None, Option, ap, sym, subst, ◌∙◌, arith, refl}
use Rattle.std.specs.Fn.{Called, Mut}
use Rattle.std.specs.Iterator.Adapters.{map_source, map_callee, map_steps}
use Rattle.std.specs.List.{Contains, fold}
use Rattle.std.specs.declared.iter.Map.{Map}
use Rattle.std.proofs.lemmas.Iterator.{YieldsList}
use Rattle.std.proofs.lemmas.List.Elements.{Contains-append_right}
use Rattle.std.proofs.lemmas.Bool.{eqb-false, eqb-true, leb-false, ltb-false, not-false, or_parts}
use Rattle.network.proofs.Accepting.{passed}
use Rattle.network.specs.Limits.{max_nodes, max_pipes, no_pipe}
use Rattle.network.specs.declared.pipe.Pipe.{Pipe}
use Rattle.mincut.specs.Flow.{Flow, bad_pipe, some_bad_pipe, total_capacity}
use Rattle.mincut.specs.Solver.{cut_refusal, max_capacity, misshapen}

-- to stop at m after each element is to stop at m at the end
pub capped : {X : Type 0} (f : X → ℕ) (m a : ℕ) (xs : List X) → fold (λ s x. min (s + x) m) (min a m) (map f xs) ≡ min (fold (λ s x. s + f x) a xs) m
capped f m a [] = refl
capped f m a (x ∷ xs) =
    let e : min (min a m + f x) m ≡ min (a + f x) m = omega arith in
    ap (λ s. fold (λ s x. min (s + x) m) s (map f xs)) e ∙ capped f m (a + f x) xs

-- what `map` gives over ys, where the closure gives h of an element of ys
pub mapped : {S A B F R : Type 0} {steps : S → Option A → S → Type 0} {v : A → B} (g : Mut F (A × Unit {0}) R) (h : B → R) {f : F} (ys : List B) {s : Map S F} → YieldsList steps v (map_source s) ys → map_callee s ≡ f
    → ((x : A) (r : R) (q : F) → Contains ys (v x) → Called g f (x, tt) r q → (q ≡ f) × (r ≡ h (v x))) → YieldsList (map_steps steps g) (λ r. r) s (map h ys)
mapped g h [] e a k = record { runs = λ y j p. e.runs p.0 (map_source j) p.1 }
mapped {steps = steps} {v = v} g h (z ∷ ys) e a k = record {
  runs = (
    (λ j p. e.runs.0 (map_source j) p.0),
    λ y j p.
        let n = e.runs.1 p.0 (map_source j) p.1 in
        let m = k p.0 y (map_callee j) (0, omega arith, sym n.0) (subst (λ w. Called g w (p.0, tt) y (map_callee j)) a p.2) in
        (m.1 ∙ ap h n.0, (mapped {steps = steps} g h ys {s = j} (record { runs = n.1 }) m.0 (λ x r q i. k x r q (Contains-append_right (z ∷ []) ys (v x) i))).runs),
  );
}

-- the ends of the pipe are two different nodes of the n that there are
abbrev pub GoodPipe : ℕ → Pipe ℕ → Type 0
GoodPipe n p = (p.first < n) × (p.second < n) × (p.first ≡ p.second → ⊥)

-- what holds of a flow network and the length of a marks buffer that no solver refuses
pub record Accepted (net : Flow) (m : ℕ) : Type 0 where
  pub few : net.nodes ≤ max_nodes
  pub few_pipes : length net.pipes ≤ max_pipes
  pub sources : length net.sources ≡ net.nodes
  pub sinks : length net.sinks ≡ net.nodes
  pub marks : m ≡ net.nodes
  pub ends : (k : ℕ) → k < length net.pipes → GoodPipe net.nodes (get_or net.pipes k no_pipe)
  pub small : total_capacity net ≤ max_capacity

good_pipe : (n : ℕ) (p : Pipe ℕ) → bad_pipe n p ≡ false → GoodPipe n p
good_pipe n p e =
    let a = or_parts _ _ e in
    let b = or_parts _ _ a.1 in
    (leb-false _ _ a.0, leb-false _ _ b.0, eqb-false _ _ b.1)

good_pipes : (n : ℕ) (ps : List (Pipe ℕ)) → some_bad_pipe n ps ≡ false → (k : ℕ) → k < length ps → GoodPipe n (get_or ps k no_pipe)
good_pipes n [] e k h = absurd (omega arith)
good_pipes n (p ∷ ps) e zero h = good_pipe n p (or_parts _ _ e).0
good_pipes n (p ∷ ps) e (suc k) h = good_pipes n ps (or_parts _ _ e).1 k (omega arith)

shaped : (net : Flow) (marks : ℕ) → misshapen net marks ≡ false → total_capacity net ≤ max_capacity → Accepted net marks
shaped net marks e small =
    let a = or_parts _ _ e in
    let b = or_parts _ _ a.1 in
    let c = or_parts _ _ b.1 in
    let d = or_parts _ _ c.1 in
    let f = or_parts _ _ d.1 in
    record {
      few = ltb-false _ _ a.0;
      few_pipes = ltb-false _ _ b.0;
      sources = eqb-true _ _ (not-false _ c.0);
      sinks = eqb-true _ _ (not-false _ d.0);
      marks = eqb-true _ _ (not-false _ f.0);
      ends = good_pipes net.nodes net.pipes f.1;
      small = small;
    }

pub accepted : (net : Flow) (marks : ℕ) → cut_refusal net marks ≡ None → Accepted net marks
accepted net marks e =
    let a = passed _ _ _ e in
    let b = passed _ _ _ a.1 in
    shaped net marks a.0 (ltb-false _ _ b.0)

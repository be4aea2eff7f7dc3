-- Sums over the nodes and over the pipes, as the code makes them.
-- Assumes nothing.
use Rattle.std.proofs.Common.{◌≡◌, ℕ, zero, suc, ◌+◌, ◌*◌, ◌^◌, ◌<◌, ◌≤◌, Bool, cond, List, [], ◌∷◌, ◌++◌, Option, Some, length, get_or, map, sum_by, refl, sym, ap, subst, ◌∙◌, add-one, zero-add, mul-le-mul_right, arith}
use Rattle.std.specs.Iterator.{CallableAtEachTurn}
use Rattle.std.specs.List.{All, range_with_len, sum}
use Rattle.std.proofs.lemmas.Fn.{serves_by}
use Rattle.std.proofs.lemmas.Iterator.{YieldsList}
use Rattle.std.proofs.lemmas.Iterator.Consumers.{YieldsList-so_far, YieldsList-turn}
use Rattle.std.proofs.lemmas.List.{map_push}
use Rattle.std.proofs.lemmas.List.Elements.{All-from_get_or, All-get_or, All-pop}
use Rattle.std.proofs.lemmas.List.FromFn.{length-range_with_len, get_or-range_with_len, sum_by-map-range_with_len_more}
use Rattle.std.proofs.lemmas.List.Sums.{sum-map, sum_by-le, sum_by_more_le, sum_by_push}
use Rattle.network.specs.Limits.{no_pipe, max_nodes, max_weight, max_cost, PipeFits, Limits, WithinLimits}
use Rattle.network.specs.declared.pipe.Pipe.{Pipe}
use Rattle.network.specs.Net.{Decides, Net, Nodes, count, when, below, weight_in, adds, crosses}

when_le : (b : Bool) (x : ℕ) → when b x ≤ x
when_le b x = grind arith

-- each pipe of a network within its limits fits
pub each_pipe : (net : Net) → WithinLimits net → All (PipeFits (count net)) net.pipes
each_pipe net l = All-from_get_or (PipeFits (count net)) net.pipes no_pipe l.3

-- the summed cost of the pipes that cross a set fits a number of 32 bits
pub across_fits : (net : Net) (X : Nodes) → WithinLimits net → sum_by (adds X) net.pipes < 2 ^ 32
across_fits net X l =
    let least : (p : Pipe ℕ) → PipeFits (count net) p → adds X p ≤ max_cost = λ p f. omega (arith, f.4, when_le (crosses X p) p.cost) in
    let each : All (λ p. adds X p ≤ max_cost) net.pipes = All-from_get_or (λ p. adds X p ≤ max_cost) net.pipes no_pipe (λ k h. least _ (l.3 k h)) in
    omega (arith, sum_by-le (adds X) max_cost net.pipes each, mul-le-mul_right max_cost l.1)

-- what a fold may be asked that keeps two totals, where each call raises either by h of its item at most, and each item has P
module _ {S A B : Type 0} {steps : S → Option A → S → Type 0} {v : A → B} {s : S} {all : List B} (road : YieldsList steps v s all) (P : B → Type 0) (each : All P all) (h : B → ℕ) where
  pub serves_from_totals : {F : Type 0} {R : F × (ℕ × ℕ) → A → F × (ℕ × ℕ) → Type 0} {Q : F × (ℕ × ℕ) → A → Type 0} {f : F}
      → ((m n : ℕ) (x : A) (q : F × (ℕ × ℕ)) → R (f, (m, n)) x q → (q.0 ≡ f) × (q.1.0 ≤ m + h (v x)) × (q.1.1 ≤ n + h (v x)))
      → ((m n : ℕ) (x : A) → P (v x) → m + h (v x) ≤ sum_by h all → n + h (v x) ≤ sum_by h all → Q (f, (m, n)) x)
      → CallableAtEachTurn {P = F × (ℕ × ℕ)} steps R Q s (f, (0, 0))
  serves_from_totals {F} {R} {Q} {f} raises asks = serves_by R (λ xs q. (q.0 ≡ f) × (q.1.0 ≤ sum_by h (map v xs)) × (q.1.1 ≤ sum_by h (map v xs)))
      (λ xs q x w j r.
      let k = raises q.1.0 q.1.1 x w (subst (λ g. R (g, q.1) x w) j.0 r) in
      let more : sum_by h (map v (xs ++ x ∷ [])) ≡ sum_by h (map v xs) + h (v x) = ap (sum_by h) (map_push v xs x) ∙ sum_by_push h (map v xs) (v x) in
      (k.0, omega (arith, k.1, j.1, more), omega (arith, k.2, j.2, more)))
      steps Q s (f, (0, 0)) (refl, omega arith, omega arith)
      (λ xs t q x u y e j.
      let turn = YieldsList-turn road xs t y (Some x) u x refl e in
      let here : P (v x) = subst P (sym turn.1) (All-get_or P all (length xs) (v x) turn.0 each) in
      let far = ap (sum_by h) (YieldsList-so_far road xs t y) in
      let room : sum_by h (map v xs) + h (v x) ≤ sum_by h all = omega (arith, far, ap h turn.1, sum_by_more_le h all (length xs) (v x) turn.0) in
      subst (λ g. Q (g, q.1) x) (sym j.0) (asks q.1.0 q.1.1 x here (omega (arith, j.1, room)) (omega (arith, j.2, room))))

-- a test with these answers chooses the node just if it is in X
abbrev pub DecidedAt : (ℕ → Bool → Type 0) → Nodes → ℕ → Type 0
DecidedAt answers X v = (b : Bool) → answers v b → b ≡ X v

module _ (ws : List ℕ) where
  abbrev pub weight_at : ℕ → ℕ
  weight_at v = get_or ws v 0

  -- the numbers of all nodes
  abbrev pub numbers : List ℕ
  numbers = range_with_len 0 (length ws)

  -- what a node adds to the weight of X
  abbrev pub node_adds : Nodes → ℕ → ℕ
  node_adds X v = when (X v) (weight_at v)

  -- the total over the nodes that a test with these answers chooses
  pub record Tally (answers : ℕ → Bool → Type 0) (nodes : List ℕ) (total : ℕ) : Type 0 where
    pub exact : (X : Nodes) → All (DecidedAt answers X) nodes → total ≡ sum_by (node_adds X) nodes
    pub bound : total ≤ sum_by weight_at nodes

  pub tally_none : (answers : ℕ → Bool → Type 0) → Tally answers [] 0
  tally_none answers = record { exact = λ X d. refl; bound = omega arith }

  -- one node more, of which the test answers b
  pub tally_more : (answers : ℕ → Bool → Type 0) (nodes : List ℕ) (v total more : ℕ) (b : Bool) → answers v b → more ≡ cond b (total + weight_at v) total
      → Tally answers nodes total → Tally answers (nodes ++ v ∷ []) more
  tally_more answers nodes v total more b a e t = record {
    exact = λ X d.
        let parts = All-pop (DecidedAt answers X) _ nodes (Some v) refl d in
        grind (arith, e, parts.1 b a, t.exact X parts.0, sum_by_push (node_adds X) nodes v);
    bound = grind (arith, e, t.bound, sum_by_push weight_at nodes v);
  }

  -- what holds of each node holds of all
  pub each_node : (P : ℕ → Type 0) → ((v : ℕ) → v < length ws → P v) → All P numbers
  each_node P h = All-from_get_or P numbers 0 (λ k l.
      let here : k < length ws = omega (arith, l, length-range_with_len 0 (length ws)) in
      rw (get_or-range_with_len 0 (length ws) k 0 here, zero-add) (h k here))

  weight_below : (X : Nodes) (n : ℕ) → sum (map (node_adds X) (range_with_len 0 n)) ≡ below n (node_adds X)
  unfolding below
  weight_below X zero = refl
  weight_below X (suc n) =
      let more = sum_by-map-range_with_len_more (λ x. x) (node_adds X) 0 n n (omega arith) in
      (rw (add-one n) at more) ∙ ap (λ k. k + node_adds X n) (weight_below X n)

  -- the weight of X, where all nodes are tallied
  pub tally_all : (answers : ℕ → Bool → Type 0) (total : ℕ) → Tally answers numbers total → (X : Nodes) → Decides answers (length ws) X → total ≡ weight_in ws X
  unfolding weight_in
  tally_all answers total t X d =
      t.exact X (each_node (DecidedAt answers X) (λ v l b a. d v b l a)) ∙ sym (sum-map (node_adds X) numbers) ∙ weight_below X (length ws)

  -- the summed weight of all nodes of a network within its limits
  pub weights_fit : (ps : List (Pipe ℕ)) → Limits ws ps → sum_by weight_at numbers ≤ max_nodes * max_weight
  weights_fit ps l =
      let each : All (λ v. weight_at v ≤ max_weight) numbers = each_node _ (λ v h. (l.2 v h).1) in
      omega (arith, sum_by-le weight_at max_weight numbers each, length-range_with_len 0 (length ws), mul-le-mul_right max_weight l.0)

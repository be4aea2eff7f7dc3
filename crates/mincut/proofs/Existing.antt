-- Every flow network that no solver refuses has a smallest minimum cut, so every flow network has an answer.
-- Assumes nothing.
use Rattle.std.proofs.Common.{◌≡◌, ℕ, zero, suc, ◌+◌, ◌<◌, ◌≤◌, Bool, true, false, not, ◌&&◌, ◌||◌, eqb, List, [], ◌∷◌, map, length, get_or, Some, None, Ok, Err, sum_by, Option, Result, sym, refl, ap, ◌∙◌, subst, inl, inr, arith}
use mathlib.Core.Path.{fun_ext}
use Rattle.std.proofs.lemmas.List.FromFn.{get_or-map-range_with_len, length-map-range_with_len}
use Rattle.std.proofs.lemmas.List.Sums.{sum_by-cons}
use Rattle.std.proofs.lemmas.Bool.{and_parts, cases_lt, false≢true}
use Rattle.std.specs.List.{range_with_len}
use Rattle.faults.specs.declared.fault.Fault.{Fault}
use Rattle.network.specs.Net.{Nodes, below, exactly_one, set_of, when, within, weight_in as sum_in}
use Rattle.mincut.specs.Flow.{Contained, Flow, capacity}
use Rattle.network.specs.Net.{adds, cost_across}
use Rattle.mincut.specs.Laws.{AnswerExists}
use Rattle.mincut.specs.Solver.{Answers, Solved, cut_refusal}
use Rattle.mincut.proofs.Checking.{Accepted, accepted}
use Rattle.mincut.proofs.Sets.{capacity_same}

-- the nodes of X and those of Y
abbrev union : Nodes → Nodes → Nodes
union X Y v = X v || Y v

-- two sums that are, term by term, at most two others
below_pairs : (f g h k : ℕ → ℕ) → ((v : ℕ) → f v + g v ≤ h v + k v) → (n : ℕ) → below n f + below n g ≤ below n h + below n k
unfolding below
below_pairs f g h k e zero = omega arith
below_pairs f g h k e (suc n) = omega (arith, e n, below_pairs f g h k e n)

sum_by_pairs : {T : Type 0} (f g h k : T → ℕ) → ((x : T) → f x + g x ≤ h x + k x) → (xs : List T) → sum_by f xs + sum_by g xs ≤ sum_by h xs + sum_by k xs
sum_by_pairs f g h k e [] = omega arith
sum_by_pairs f g h k e (x ∷ xs) =
    omega (arith, e x, sum_by_pairs f g h k e xs, sum_by-cons f x xs, sum_by-cons g x xs, sum_by-cons h x xs, sum_by-cons k x xs)

-- what one node adds to the capacities of the intersection and the union, and what one pipe adds:
-- a and b say whether its ends are in the one set, c and d whether they are in the other
node_in : (x y : Bool) (w : ℕ) → when (x && y) w + when (x || y) w ≤ when x w + when y w
node_in x y w = grind arith

node_out : (x y : Bool) (w : ℕ) → when (not (x && y)) w + when (not (x || y)) w ≤ when (not x) w + when (not y) w
node_out x y w = grind arith

one_pipe : (a b c d : Bool) (w : ℕ) → when (exactly_one (a && c) (b && d)) w + when (exactly_one (a || c) (b || d)) w ≤ when (exactly_one a b) w + when (exactly_one c d) w
one_pipe a b c d w = grind arith

-- the capacities of the intersection and of the union sum to at most those of the two sets
submodular : (net : Flow) (X Y : Nodes) → capacity net (within Y X) + capacity net (union X Y) ≤ capacity net X + capacity net Y
unfolding capacity cost_across sum_in
submodular net X Y =
    let inside = below_pairs _ _ _ _ (λ v. node_in (X v) (Y v) (get_or net.sinks v 0)) (length net.sinks) in
    let outside = below_pairs _ _ _ _ (λ v. node_out (X v) (Y v) (get_or net.sources v 0)) (length net.sources) in
    let across = sum_by_pairs (adds (within Y X)) (adds (union X Y)) (adds X) (adds Y) (λ p. one_pipe (X p.first) (X p.second) (Y p.first) (Y p.second) p.cost) net.pipes in
    omega arith

-- node 0 where b holds, and node v + 1 for each node v of X
abbrev put : Bool → Nodes → Nodes
put b X zero = b
put b X (suc v) = X v

same_nodes : (X Y : Nodes) → X 0 ≡ Y 0 → ((v : ℕ) → X (suc v) ≡ Y (suc v)) → X ≡ Y
same_nodes X Y e f = fun_ext each
  where
    each : (v : ℕ) → X v ≡ Y v
    each zero = e
    each (suc v) = f v

-- what holds of each set with node 0 and of each without it holds of every set
each_set : (P : Nodes → Type 0) → ((b : Bool) (Y : Nodes) → P (put b Y)) → (Y : Nodes) → P Y
each_set P h Y = subst P (same_nodes (put (Y 0) (λ v. Y (suc v))) Y refl (λ v. refl)) (h (Y 0) (λ v. Y (suc v)))

put_same : (n : ℕ) (b : Bool) (X Y : Nodes) → ((v : ℕ) → v < n → X v ≡ Y v) → (v : ℕ) → v < suc n → put b X v ≡ put b Y v
put_same n b X Y e zero h = refl
put_same n b X Y e (suc v) h = e v (omega arith)

-- F is a submodular function of the first n nodes of a set
record Submodular (n : ℕ) (F : Nodes → ℕ) : Type 0 where
  same : (X Y : Nodes) → ((v : ℕ) → v < n → X v ≡ Y v) → F X ≡ F Y
  pairs : (X Y : Nodes) → F (within Y X) + F (union X Y) ≤ F X + F Y

-- a set where F is least, contained in every other such set
record Smallest (n : ℕ) (F : Nodes → ℕ) (M : Nodes) : Type 0 where
  least : (Y : Nodes) → F M ≤ F Y
  smallest : (Y : Nodes) → F Y ≤ F M → Contained n M Y

-- one node more
module _ (n : ℕ) (F : Nodes → ℕ) (s : Submodular (suc n) F) where
  pairs_at : (b c : Bool) (X Y : Nodes) → F (put (b && c) (within Y X)) + F (put (b || c) (union X Y)) ≤ F (put b X) + F (put c Y)
  pairs_at b c X Y =
      let met = same_nodes (within (put c Y) (put b X)) (put (b && c) (within Y X)) refl (λ v. refl) in
      let joined = same_nodes (union (put b X) (put c Y)) (put (b || c) (union X Y)) refl (λ v. refl) in
      omega (arith, s.pairs (put b X) (put c Y), ap F met, ap F joined)

  fixed : (b : Bool) → Submodular n (λ X. F (put b X))
  fixed b = record { same = λ X Y h. s.same _ _ (put_same n b X Y h); pairs = pairs b }
    where
      pairs : (b : Bool) (X Y : Nodes) → F (put b (within Y X)) + F (put b (union X Y)) ≤ F (put b X) + F (put b Y)
      pairs true = pairs_at true true
      pairs false = pairs_at false false

  -- put false M is the smallest set without node 0, and put true N the smallest with it
  module _ (M N : Nodes) (o : Smallest n (λ X. F (put false X)) M) (w : Smallest n (λ X. F (put true X)) N) where
    with_first : F (put true N) < F (put false M) → Smallest (suc n) F (put true N)
    with_first less = record { least = each_set _ least; smallest = each_set _ smallest }
      where
        least : (b : Bool) (Y : Nodes) → F (put true N) ≤ F (put b Y)
        least true Y = w.least Y
        least false Y = omega (arith, o.least Y)

        smallest : (b : Bool) (Y : Nodes) → F (put b Y) ≤ F (put true N) → Contained (suc n) (put true N) (put b Y)
        smallest true Y h zero l e = refl
        smallest true Y h (suc v) l e = w.smallest Y h v (omega arith) e
        smallest false Y h v l e = absurd (omega (arith, o.least Y))

    without_first : F (put false M) ≤ F (put true N) → Smallest (suc n) F (put false M)
    without_first more = record { least = each_set _ least; smallest = each_set _ smallest }
      where
        least : (b : Bool) (Y : Nodes) → F (put false M) ≤ F (put b Y)
        least true Y = omega (arith, w.least Y)
        least false Y = o.least Y

        smallest : (b : Bool) (Y : Nodes) → F (put b Y) ≤ F (put false M) → Contained (suc n) (put false M) (put b Y)
        smallest b Y h zero l e = absurd (false≢true e)
        smallest false Y h (suc v) l e = o.smallest Y h v (omega arith) e
        smallest true Y h (suc v) l e =
            let k : F (put false (within Y M)) ≤ F (put false M) = omega (arith, pairs_at false true M Y, w.least (union M Y)) in
            (and_parts _ _ (o.smallest (within Y M) k v (omega arith) e)).1

smallest_set : (n : ℕ) (F : Nodes → ℕ) → Submodular n F → (M : Nodes) × Smallest n F M
smallest_set zero F s = (
  (λ v. false),
  record { least = λ Y. omega (arith, s.same (λ v. false) Y (λ v h. absurd (omega arith))); smallest = λ Y h v l e. absurd (omega arith) },
)
smallest_set (suc n) F s =
    let (M, o) = smallest_set n (λ X. F (put false X)) (fixed n F s false) in
    let (N, w) = smallest_set n (λ X. F (put true X)) (fixed n F s true) in
    elim (cases_lt (F (put true N)) (F (put false M))) [
      | inl less ↦ (put true N, with_first n F s M N o w less)
      | inr more ↦ (put false M, without_first n F s M N o w more)
    ]

-- the marks of the first n nodes of a set
abbrev marks_of : Nodes → ℕ → List ℕ
marks_of X n = map (λ v. when (X v) 1) (range_with_len 0 n)

mark_at : (X : Nodes) (n v : ℕ) → v < n → get_or (marks_of X n) v 0 ≡ when (X v) 1
mark_at X n v h = get_or-map-range_with_len (λ v. when (X v) 1) 0 n v v 0 h (omega arith)

a_bit : (b : Bool) → when b 1 ≤ 1
a_bit b = grind arith

read_back : (b : Bool) → eqb (when b 1) 1 ≡ b
read_back true = refl
read_back false = refl

solved : (net : Flow) (m : ℕ) → Accepted net m → (M : Nodes) → Smallest net.nodes (capacity net) M → Solved net (marks_of M net.nodes) (capacity net (set_of (marks_of M net.nodes)))
solved net m ok M s = record {
  long = length-map-range_with_len (λ v. when (M v) 1) 0 net.nodes;
  bits = λ v h. omega (arith, mark_at M net.nodes v h, a_bit (M v));
  cut = record {
    least = λ Y. omega (arith, value, s.least Y);
    smallest = λ Y k v h e. s.smallest Y (omega (arith, value, k M)) v h (sym (same v h) ∙ e);
  };
  value = refl;
}
  where
    same : (v : ℕ) → v < net.nodes → set_of (marks_of M net.nodes) v ≡ M v
    same v h = ap (λ (x : ℕ). eqb x 1) (mark_at M net.nodes v h) ∙ read_back (M v)

    value : capacity net (set_of (marks_of M net.nodes)) ≡ capacity net M
    value = capacity_same net m ok _ _ same

pub answer_exists : AnswerExists
answer_exists net before = go (cut_refusal net (length before)) refl
  where
    go : (o : Option Fault) → cut_refusal net (length before) ≡ o → (r : Result ℕ Fault) × (after : List ℕ) × Answers net before r after
    go (Some f) e = (Err f, before, (e, refl))
    go None e =
        let ok = accepted net (length before) e in
        let (M, s) = smallest_set net.nodes (capacity net) (record { same = capacity_same net (length before) ok; pairs = submodular net }) in
        (Ok _, marks_of M net.nodes, (e, solved net (length before) ok M s))

-- A smallest minimum cut is unique, and so is what a solver answers.
-- Assumes nothing.
use Rattle.std.proofs.Common.{◌≡◌, ℕ, ◌<◌, ◌≤◌, Bool, true, false, eqb, List, get_or, Ok, Err, sym, refl, ap, ◌∙◌, arith}
use Rattle.std.proofs.lemmas.List.{ext_get_or}
use Rattle.network.specs.Net.{set_of}
use Rattle.mincut.specs.Flow.{Flow, capacity}
use Rattle.mincut.specs.Laws.{OneAnswer, UniqueCut}
use Rattle.mincut.specs.Solver.{Solved}

same_truth : (b c : Bool) → (b ≡ true → c ≡ true) → (c ≡ true → b ≡ true) → b ≡ c
same_truth true c f g = sym (f refl)
same_truth false true f g = g refl
same_truth false false f g = refl

pub unique_cut : UniqueCut
unique_cut net M N m n v h = same_truth (M v) (N v) (m.smallest N n.least v h) (n.smallest M m.least v h)

-- a mark is known by whether it is 1
same_bit : (x y : ℕ) → x ≤ 1 → y ≤ 1 → eqb x 1 ≡ eqb y 1 → x ≡ y
same_bit x y h k e = grind arith

module _ {net : Flow} {after other : List ℕ} {c d : ℕ} (p : Solved net after c) (q : Solved net other d) where
  same_marks : after ≡ other
  same_marks =
      ext_get_or 0 after other (p.long ∙ sym q.long)
      (λ v h.
      let l : v < net.nodes = omega (arith, p.long) in
      same_bit (get_or after v 0) (get_or other v 0) (p.bits v l) (q.bits v l) (unique_cut net (set_of after) (set_of other) p.cut q.cut v l))

  same_value : c ≡ d
  same_value = p.value ∙ ap (λ (m : List ℕ). capacity net (set_of m)) same_marks ∙ sym q.value

pub one_answer : OneAnswer
one_answer net before after other (Ok c) (Ok d) p q = (ap Ok (same_value p.1 q.1), same_marks p.1 q.1)
one_answer net before after other (Ok c) (Err g) p q = let z : ◌≡◌ {A = ℕ} 0 1 = cc in absurd (omega arith)
one_answer net before after other (Err f) (Ok d) p q = let z : ◌≡◌ {A = ℕ} 0 1 = cc in absurd (omega arith)
one_answer net before after other (Err f) (Err g) p q = (cc, cc)

-- Records written one behind the other, as a loop writes them.
-- Assumes nothing.
use Rattle.std.proofs.Common.{◌≡◌, ℕ, ◌+◌, ◌*◌, ◌<◌, ◌≤◌, List, [], ◌∷◌, ◌++◌, length, get_or, take, sym, refl, ap, ◌∙◌, arith, length-append, length-take}
use lib.Seq.{paste}
use Rattle.std.proofs.lemmas.List.Edits.{paste_all, paste-paste}
use Rattle.std.proofs.lemmas.List.{flat_map_more, take_more}
use Rattle.std.specs.List.{flat_map}
use Rattle.netfile.specs.Answers.{overwritten}
use Rattle.netfile.specs.Records.{RecordLaws}

pasted : (out : List ℕ) (place : ℕ) (s : List ℕ) → overwritten out place s ≡ paste out place s (length s)
pasted out place s = sym (paste_all out place s (length s) refl)

-- bytes written behind others are written with them
pub overwritten_more : (out : List ℕ) (place : ℕ) (s t : List ℕ) → place ≤ length out → overwritten (overwritten out place s) (place + length s) t ≡ overwritten out place (s ++ t)
overwritten_more out place s t room =
    pasted (overwritten out place s) (place + length s) t
    ∙ (ap (λ d. paste d (place + length s) t (length t)) (pasted out place s)
    ∙ (paste-paste out place s t (length s) (length t) refl refl room
    ∙ (ap (paste out place (s ++ t)) (sym (length-append s t)) ∙ sym (pasted out place (s ++ t)))))

module _ {X : Type 0} (size : ℕ) (read : List ℕ → X) (written : X → List ℕ) (laws : RecordLaws size read written) where
  pub length_joined : (xs : List X) → length (flat_map written xs) ≡ size * length xs
  length_joined [] = omega arith
  length_joined (x ∷ xs) = length-append (written x) (flat_map written xs) ∙ omega (arith, laws.sized x, length_joined xs)

  -- the record of value i is written behind those of the values before it
  pub record_written : (out : List ℕ) (start : ℕ) (xs : List X) (i : ℕ) (x : X) → i < length xs → x ≡ get_or xs i x → start ≤ length out →
      (place : ℕ) (bytes before after : List ℕ) → place ≡ start + size * i → bytes ≡ written x → before ≡ overwritten out start (flat_map written (take i xs)) →
      after ≡ overwritten before place bytes → after ≡ overwritten out start (flat_map written (take (i + 1) xs))
  record_written out start xs i x l is room place bytes before after p b h e =
      let s = flat_map written (take i xs) in
      let few : length (take i xs) ≡ i = length-take i xs ∙ omega arith in
      let n : length s ≡ size * i = length_joined (take i xs) ∙ ap (λ k. size * k) few in
      let at_end : place ≡ start + length s = p ∙ ap (λ k. start + k) (sym n) in
      let more : s ++ written x ≡ flat_map written (take (i + 1) xs) =
      flat_map_more written [] (take i xs) x ∙ ap (flat_map written) (sym (take_more xs i x l ∙ ap (λ y. take i xs ++ y ∷ []) (sym is))) in
      rw (e, h, at_end, b, overwritten_more out start s (written x) room, more) refl

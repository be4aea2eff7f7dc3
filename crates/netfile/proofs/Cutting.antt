-- A list cut into records of one size.
-- Assumes nothing.
use Rattle.std.proofs.Common.{◌≡◌, ℕ, zero, suc, ◌+◌, ◌*◌, ◌≤◌, List, [], ◌∷◌, ◌++◌, map, length, take, drop, refl, ap, arith, length-drop, take-add}
use Rattle.std.proofs.ByRecursion.{All-drop, All-take}
use Rattle.std.proofs.lemmas.List.{append_assoc, length-take-le, drop_at, drop-take, take_at, take-take}
use Rattle.std.specs.List.{flat_map}
use Rattle.std.specs.Simd.{first_chunks}
use Rattle.netfile.specs.Format.{Bytes}
use Rattle.netfile.specs.Records.{RecordLaws}

module _ {X : Type 0} (size : ℕ) where
  pub length_chunked : (n : ℕ) (xs : List X) → length (first_chunks size n xs) ≡ n
  length_chunked zero xs = refl
  length_chunked (suc n) xs = ap suc (length_chunked n (drop size xs))

  -- what lies behind the records does not matter
  pub chunked_front : (n : ℕ) (xs : List X) → first_chunks size n (take (size * n) xs) ≡ first_chunks size n xs
  chunked_front zero xs = refl
  chunked_front (suc n) xs =
      let e : size * suc n ≡ size + size * n = omega arith in
      rw (e, take-take size (size + size * n) xs (omega arith), drop-take size (size * n) xs, chunked_front n (drop size xs))

  -- the records at the front of xs, and those from a place of xs on
  pub cut_front : (xs ys : List X) (n k : ℕ) → ys ≡ take (size * n) xs → k ≡ n → first_chunks size k ys ≡ first_chunks size n xs
  cut_front xs ys n k e l = rw (e, l) (chunked_front n xs)

  pub cut_from : (xs ys : List X) (place n k : ℕ) → ys ≡ drop place xs → k ≡ n → first_chunks size k ys ≡ first_chunks size n (drop place xs)
  cut_from xs ys place n k e l = rw (e, l) refl

-- records of one kind, which are read and written by its laws
module _ {X : Type 0} (size : ℕ) (read : List ℕ → X) (written : X → List ℕ) (laws : RecordLaws size read written) where
  -- those written one behind the other are cut into themselves
  pub chunked_joined : (xs : List X) (rest : List ℕ) → first_chunks size (length xs) (flat_map written xs ++ rest) ≡ map written xs
  chunked_joined [] rest = refl
  chunked_joined (x ∷ xs) rest =
      let e = append_assoc (written x) (flat_map written xs) rest in
      let t = take_at (written x) (flat_map written xs ++ rest) size (laws.sized x) in
      let d = drop_at (written x) (flat_map written xs ++ rest) size (laws.sized x) in
      rw (e, t, d, chunked_joined xs rest) refl

  -- those written are read back
  pub read_joined : (xs : List X) → map read (map written xs) ≡ xs
  read_joined [] = refl
  read_joined (x ∷ xs) = rw (laws.read_back x, read_joined xs) refl

  -- those that bytes are cut into are written back
  pub joined_chunked : (n : ℕ) (xs : List ℕ) → Bytes xs → size * n ≤ length xs → flat_map written (map read (first_chunks size n xs)) ≡ take (size * n) xs
  joined_chunked zero xs h l = let z : size * 0 ≡ 0 = omega arith in rw z refl
  joined_chunked (suc n) xs h l =
      let e : size * suc n ≡ size + size * n = omega arith in
      let one = laws.written_back (take size xs) (All-take _ size xs h) (length-take-le size xs (omega arith)) in
      let more = joined_chunked n (drop size xs) (All-drop _ size xs h) (omega (arith, length-drop size xs)) in
      rw (e, take-add size (size * n) xs, one, more) refl

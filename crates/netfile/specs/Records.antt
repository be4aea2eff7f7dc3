-- What a record is, and that those of nodes and of pipes are records.
-- Assumes nothing.
use Rattle.std.specs.Prelude.{◌≡◌, ℕ, List, [], ◌∷◌, length, refl}
use Rattle.std.proofs.Common.{arith}
use Rattle.std.proofs.lemmas.Nat.{div-add-mod', div-mul-add, mod-mul-add}
use Rattle.netfile.specs.Format.{Bytes, node_record, node_size, pipe_from, pipe_record, pipe_size, weight_from}

-- Each value is written as so many bytes, which are read as that value. So many bytes are read as a value that is
-- written as them.
pub record RecordLaws {X : Type 0} (size : ℕ) (read : List ℕ → X) (written : X → List ℕ) : Type 0 where
  pub sized : (x : X) → length (written x) ≡ size
  pub read_back : (x : X) → read (written x) ≡ x
  pub written_back : (bytes : List ℕ) → Bytes bytes → length bytes ≡ size → written (read bytes) ≡ bytes

node_written_back : (bytes : List ℕ) → Bytes bytes → length bytes ≡ node_size → node_record (weight_from bytes) ≡ bytes
node_written_back [] h l = absurd (omega arith)
node_written_back (a ∷ []) h l = absurd (omega arith)
node_written_back (a ∷ b ∷ []) h l = rw (div-mul-add a 256 b h.1.0, mod-mul-add a 256 b h.1.0) refl
node_written_back (a ∷ b ∷ c ∷ bytes) h l = absurd (omega arith)

pipe_written_back : (bytes : List ℕ) → Bytes bytes → length bytes ≡ pipe_size → pipe_record (pipe_from bytes) ≡ bytes
pipe_written_back [] h l = absurd (omega arith)
pipe_written_back (a ∷ []) h l = absurd (omega arith)
pipe_written_back (a ∷ b ∷ []) h l = absurd (omega arith)
pipe_written_back (a ∷ b ∷ c ∷ []) h l = absurd (omega arith)
pipe_written_back (a ∷ b ∷ c ∷ d ∷ []) h l = rw (div-mul-add c 256 d h.1.1.1.0, mod-mul-add c 256 d h.1.1.1.0) refl
pipe_written_back (a ∷ b ∷ c ∷ d ∷ e ∷ bytes) h l = absurd (omega arith)

pub node_laws : RecordLaws node_size weight_from node_record
node_laws = record {
  sized = λ weight. refl;
  read_back = λ weight. div-add-mod' weight 256;
  written_back = node_written_back;
}

pub pipe_laws : RecordLaws pipe_size pipe_from pipe_record
pipe_laws = record {
  sized = λ pipe. refl;
  read_back = λ pipe. rw (div-add-mod' pipe.cost 256) refl;
  written_back = pipe_written_back;
}

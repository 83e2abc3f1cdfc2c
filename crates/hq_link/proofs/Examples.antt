-- The datagram that brings `hi`, and bytes that are none.
use Rattle.std.proofs.Common.{◌≡◌, ℕ, List, [], ◌∷◌, ◌++◌, Option, Some, None, refl}
use Rattle.std.specs.Prelude.{replicate}
use Rattle.hq_link.specs.declared.datagram.Datagram.{Datagram}
use Rattle.hq_link.specs.declared.datagram.Packet.{Packet}
use Rattle.hq_link.specs.declared.datagram.Packet.TheVariants.{Data, Eos, Ack, Probe}
use Rattle.hq_link.specs.Gram.{gram_bytes}
use Rattle.hq_link.specs.Reading.{gram_at, after_kind, packet_of, fields_at}

-- number 0 of motion 1 of query 5, from node 0 to node 2
brings : Packet → List ℕ → Datagram
brings kind payload = record { kind = kind; from = 0; to = 2; motion = 1; query = 5; seq = 0; payload = payload }

hi : List ℕ
hi = 0x68 ∷ 0x69 ∷ []

-- its 26 bytes under a first byte, a version, a receiving node and a payload length
bytes : ℕ → ℕ → ℕ → ℕ → List ℕ → List ℕ
bytes kind version to size payload =
    kind ∷ version ∷ 0 ∷ to ∷ 0 ∷ 1 ∷ 0 ∷ size ∷ 0 ∷ 0 ∷ 0 ∷ 0 ∷ 0 ∷ 0 ∷ 0 ∷ 5 ∷ 0 ∷ 0 ∷ 0 ∷ 0 ∷ 0 ∷ 0 ∷ 0 ∷ 0 ∷ payload

spelled : gram_bytes (brings Data hi) ≡ bytes 1 1 2 2 hi
unfolding brings hi bytes
spelled = refl

read : gram_at (bytes 1 1 2 2 hi) ≡ Some (brings Data hi)
unfolding gram_at after_kind packet_of fields_at brings hi bytes
read = refl

an_ack : gram_at (bytes 3 1 2 0 []) ≡ Some (brings Ack [])
unfolding gram_at after_kind packet_of fields_at brings bytes
an_ack = refl

a_byte_less : gram_at (bytes 1 1 2 2 (0x68 ∷ [])) ≡ None
unfolding gram_at after_kind packet_of fields_at bytes
a_byte_less = refl

another_version : gram_at (bytes 1 2 2 2 hi) ≡ None
unfolding gram_at after_kind packet_of fields_at hi bytes
another_version = refl

another_kind : gram_at (bytes 4 1 2 2 hi) ≡ None
unfolding gram_at after_kind packet_of fields_at hi bytes
another_kind = refl

another_node : gram_at (bytes 1 1 16 2 hi) ≡ None
unfolding gram_at after_kind packet_of fields_at hi bytes
another_node = refl

no_payload : gram_at (bytes 1 1 2 0 []) ≡ None
unfolding gram_at after_kind packet_of fields_at bytes
no_payload = refl

an_end_with_a_payload : gram_at (bytes 2 1 2 2 hi) ≡ None
unfolding gram_at after_kind packet_of fields_at hi bytes
an_end_with_a_payload = refl

-- Datagrams in bytes.
--     Fits d              the fields are in their ranges
--     gram_bytes d        the spelling of a datagram, which begins with its head_bytes
--     IsGram d bytes      the bytes spell the datagram
use Rattle.std.specs.Prelude.{◌≡◌, ℕ, ◌^◌, ◌<◌, Bool, true, ◌&&◌, List, ◌∷◌, ◌++◌, length, nat_lt, nat_le, ◌==◌}
use Rattle.std.specs.Int.{to_be_bytes, w16, w64}
use Rattle.hq_link.specs.declared.datagram.Packet.{Packet}
use Rattle.hq_link.specs.declared.datagram.Packet.TheVariants.{Data, Eos, Ack, Probe}
use Rattle.hq_link.specs.declared.datagram.Datagram.{Datagram}
use Rattle.hq_link.specs.declared.route.Route.{Route}

-- the first byte
abbrev pub code : Packet → ℕ
code Data = 1
code Eos = 2
code Ack = 3
code Probe = 5

-- a Data brings 1 to 1,200 bytes, the others none
abbrev pub may_bring : Packet → ℕ → Bool
may_bring Data n = nat_lt 0 n && nat_le n 1200
may_bring Eos n = n == 0
may_bring Ack n = n == 0
may_bring Probe n = n == 0

-- the fields are in their ranges
pub record Fits (d : Datagram) : Type 0 where
  pub from : d.from < 16
  pub to : d.to < 16
  pub motion : d.motion < 2 ^ 16
  pub query : d.query < 2 ^ 64
  pub seq : d.seq < 2 ^ 64
  pub payload : may_bring d.kind (length d.payload) ≡ true

-- 24 bytes of head, and the payload
abbrev pub gram_bytes : Datagram → List ℕ
gram_bytes d =
    code d.kind ∷ 1 ∷ d.from ∷ d.to
    ∷ (to_be_bytes w16 d.motion ++ (to_be_bytes w16 (length d.payload) ++ (to_be_bytes w64 d.query ++ (to_be_bytes w64 d.seq ++ d.payload))))

-- the bytes before the payload, of which there are `size`
abbrev pub head_bytes : Packet → Route → ℕ → ℕ → List ℕ
head_bytes kind route size n =
    code kind ∷ 1 ∷ route.from ∷ route.to
    ∷ (to_be_bytes w16 route.motion ++ (to_be_bytes w16 size ++ (to_be_bytes w64 route.query ++ to_be_bytes w64 n)))

-- the bytes spell the datagram
pub record IsGram (d : Datagram) (bytes : List ℕ) : Type 0 where
  pub fits : Fits d
  pub spelled : bytes ≡ gram_bytes d

-- A session at a desk.
--     IsSeated nodes k s benches    it is session k, over so many nodes, each of which has its bench
use Rattle.std.specs.Prelude.{◌≡◌, ◌<◌, ℕ, List, length}
use Rattle.hq_session.specs.declared.session.Session.{Session}
use Rattle.hq_session.specs.Keeps.{IsSound, number_of, nodes_of, txn_of}

pub record IsSeated {F Z B : Type 0} (nodes k : ℕ) (s : Session F Z) (benches : List B) : Type 0 where
  pub number : number_of s ≡ k
  pub nodes_are : nodes_of s ≡ nodes
  pub some : 0 < nodes
  pub benches_are : length benches ≡ nodes
  pub sound : IsSound (txn_of s)

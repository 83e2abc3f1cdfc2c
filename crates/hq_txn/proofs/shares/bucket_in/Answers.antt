-- A row that fits has the columns of the keys.
use Rattle.std.proofs.Common.{ℕ, List, subst, sym}
use Rattle.hq_value.specs.Bucket.{HasColumns}
use Rattle.hq_txn.proofs.shares.bucket_in.Goals as goal

pub bucket_at-requires : goal.bucket_at-requires
bucket_at-requires c = subst (λ (keys : List ℕ). HasColumns keys c.args.row.now) (sym c.keys.ensures) (c.rows_that_fit_have_their_keys.ensures c.args.def.now c.args.row.now c.keeps_the_rules.ensures c.requires)

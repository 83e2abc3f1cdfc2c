use Rattle.hq_bind.proofs.query.query_order.Goals as goal

pub returns : goal.returns
returns c = rw (c.items_read-items.ensures, c.as_slice.ensures, c.as_slice-2.ensures) at c.order_of.ensures

-- As it ran.
use Rattle.hq_txn.proofs.task.Task.work.Goals as goal

pub returns : goal.returns
returns g c =
    let ran = c.run.ensures in
    record {
      head = ran.head;
      written = ran.written;
      begun = ran.begun;
      whole = ran.whole;
      link = ran.link;
      unused = ran.unused;
      answered = ran.answered;
      held = ran.held;
      host_used = ran.host_used;
      host_rose = ran.host_rose;
      store_used = ran.store_used;
      store_rose = ran.store_rose;
      host = ran.host;
      store = ran.store;
    }

use Rattle.std.proofs.Common.{ap, ◌∙◌, ◌≡◌, false}
use Rattle.hq_io.specs.Memory.{fails_next, MemoryInput}
use Rattle.hq_io.proofs.Planning.{none-fails, none-later, given-from, given-end}
use Rattle.hq_io.proofs.memory_source.MemSourceSource.read.Goals as goal

pub returns-then-fails_now-clause-sound : goal.returns-then-fails_now-clause-sound
returns-then-fails_now-clause-sound c = λ h. absurd (let no : fails_next c.args.self.now.fails c.args.self.now.calls ≡ false = none-fails _ _ h in cc)

pub returns-clause-bytes : goal.returns-clause-bytes
returns-clause-bytes c =
    let is = ap (λ (s : MemoryInput). s.left) (c.self.view_is ∙ c.fails_now.ensures.new) in
    let bytes = rw c.deref.ensures.value at c.give-count.ensures.bytes in
    let end = rw c.deref.ensures.value at c.give-count.ensures.end in
    (given-from _ _ _ _ _ is bytes, λ none room. given-end _ _ _ none (end none))

pub returns-clause-sound : goal.returns-clause-sound
returns-clause-sound c = λ h.
    let is = c.self.view_is ∙ c.fails_now.ensures.new in
    let faults = ap (λ (s : MemoryInput). s.faults) is in
    let calls = ap (λ (s : MemoryInput). s.calls) is in
    let fails = ap (λ (s : MemoryInput). s.fails) is in
    (faults, rw (fails, calls) (none-later _ _ h))

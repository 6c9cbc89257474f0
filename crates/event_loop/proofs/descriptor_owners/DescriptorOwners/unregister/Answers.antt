use Rattle.event_loop.proofs.Consistent.{consistent_removed, fewer_owners}
use Rattle.event_loop.proofs.Watching.{listed_once}
use Rattle.event_loop.proofs.descriptor_owners.DescriptorOwners.unregister.Goals as goal

pub remove-moved-requires-clause-listed : goal.remove-moved-requires-clause-listed
remove-moved-requires-clause-listed c =
    let b = c.self.inside in
    let owns = rw (← c.self.view_is, ← c.number-fd.ensures.value) at c.requires in
    listed_once b.owners b.watched b.watched c.number-fd.result c.self.invariant.are_watched c.args.id owns

pub invariant_of-self : goal.invariant_of-self
invariant_of-self c =
    let b = c.self.inside in
    let owns = rw (← c.self.view_is, ← c.number-fd.ensures.value) at c.requires in
    rw c.note_moved.ensures (consistent_removed b.owners c.disown.new.owners b.owned b.raised b.watched c.remove-moved.new.self c.self.invariant c.number-fd.result c.args.id owns c.disown.ensures.disowned c.disown.new.owned c.disown.new.raised c.disown.ensures.counted c.remove-moved.ensures.distinct c.remove-moved.ensures.removed)

pub returns-clause-fewer : goal.returns-clause-fewer
returns-clause-fewer c =
    let b = c.self.inside in
    let owns = rw (← c.self.view_is, ← c.number-fd.ensures.value) at c.requires in
    rw (c.note_moved.ensures, ← c.self.view_is) (fewer_owners b.owners c.disown.new.owners b.owned b.raised b.watched c.remove-moved.new.self c.self.invariant c.number-fd.result c.args.id owns c.disown.ensures.disowned)

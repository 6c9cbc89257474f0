-- What is drawn of a record.
use Rattle.vmm_sys.specs.EpollEvent.{fd_of}
use Rattle.poller_records.specs.declared.record.RecordEntry.{RecordEntry}
use Rattle.poller_records.specs.declared.record.RecordEntry.TheVariants as entry
use Rattle.show_record.specs.declared.picture.Form.{Form}
use Rattle.show_record.specs.declared.picture.Form.TheVariants.{Call, Event, Wait}
use Rattle.show_record.specs.declared.picture.Lane.TheVariants.{Descriptor}

-- the mark of an entry: a wait's own, or one in the lane of the descriptor
abbrev pub form_of : RecordEntry → Form
form_of (entry.Control op fd event answer) = Call (Descriptor fd)
form_of (entry.Wait ms room answer) = Wait
form_of (entry.Reported event) = Event (Descriptor (fd_of event))

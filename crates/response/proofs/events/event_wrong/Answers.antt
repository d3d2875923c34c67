-- The five words as they were read are the event's by name.
use Rattle.response.proofs.Faults.{wrong-is}
use Rattle.response.proofs.events.event_wrong.Goals as goal

pub returns : goal.returns
returns c =
    wrong-is _ _
    c.word-id.ensures
    c.word-size.ensures
    c.word-period.ensures
    c.word-jitter.ensures
    c.word-deadline.ensures
    c.fields_wrong.ensures
    c.is_repeated.ensures

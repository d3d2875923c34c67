-- The look-ahead refuses only where the messages that are still unplaced find no room.
use Rattle.std.proofs.Common.{arith}
use Rattle.planner.proofs.Room.{from_all, no_room}
use Rattle.planner.proofs.room_from.Goals as goal

pub returns-else-has_room : goal.returns-else-has_room
returns-else-has_room c = no_room (from_all (omega arith) c.unplaced-left.ensures) c.has_room.ensures c.if-has_room.false

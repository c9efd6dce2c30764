use Rattle.std.proofs.Common.{◌∙◌, ap}
use Rattle.tide_edge.specs.Doors.{door_after_close}
use Rattle.tide_server.proofs.connection.serve_connection.Goals as goal

pub returns : goal.returns
returns g c = record {
  connection = c.answer_connection-answered.ensures.connection;
  door = c.close.ensures ∙ ap door_after_close c.answer_connection-answered.ensures.door;
  ended = c.answer_connection-answered.ensures.ended;
}

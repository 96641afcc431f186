-- What a letter's event means.
use Rattle.std.specs.Prelude.{Some, None, Option}
use Rattle.history.specs.Calls.{Request}
use Rattle.history.specs.CallMeaning.{request_of}
use Rattle.history.specs.declared.calls.Call.{Call}

abbrev pub event_of : Option Call → Option Request
event_of None = None
event_of (Some call) = Some (request_of call)

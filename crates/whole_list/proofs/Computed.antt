-- For proofs by computation: `unfolding worked` opens the lists of calls, the rules and the meaning of a call.
use mathlib.Core.List.{List}
use Rattle.engine_value.specs.declared.Engine.{Engine}
use Rattle.timing.specs.Rule.{departing, through, point_outcome, standing_by_reports}
use Rattle.conditions.specs.Conditions.{O}
use Rattle.call_values.specs.Call.{Call}
use Rattle.call.proofs.Computed.{computed}
use Rattle.whole_list.specs.Values.{event_of_call, load_of_call, latest, route_by, skipped_by, reports_since, behind_at_load}
use Rattle.whole_list.specs.Rules.{standing_by, conditions_by, values_by, some_below, became_reached_by, machine_by, request_by}
use Rattle.whole_list.specs.Requests.{requests_since, after_requests, traction_by}
use Rattle.whole_list.specs.Table.{changes_from, changes_by, packets_by, kind_rows, table_by}
use Rattle.whole_list.specs.Calls.{play, engine_after, trace, accepted_in, last_answer}
use Rattle.packets.specs.Packets.{cut, cut_packets}
use Rattle.whole_list.specs.Recorded.{newest, last_status}

unfoldable pub worked : List Call → Engine
unfolding computed O departing through point_outcome standing_by_reports event_of_call load_of_call latest route_by skipped_by reports_since behind_at_load standing_by conditions_by values_by some_below became_reached_by machine_by request_by requests_since after_requests traction_by changes_from changes_by packets_by kind_rows table_by play trace accepted_in last_answer cut cut_packets newest last_status
worked calls = engine_after calls

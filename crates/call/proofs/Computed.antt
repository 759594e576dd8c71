-- For proofs by computation: `unfolding computed` opens `step_of` and all that it is made of.
use Rattle.wire.specs.Numbers.{number, bytes_of}
use Rattle.fields.specs.Parse.{field, bit_map, optional, many, counted, listed}
use Rattle.event.specs.Events.{event_rows, event_with, content_among, event_of_kind, event_of}
use Rattle.segment_record.specs.Record.{book_point, zone_record, segment_record}
use Rattle.book.specs.Book.{records}
use Rattle.book.specs.Table.{book_of}
use Rattle.journey.specs.Journey.{name_record, point_record, head_record, journey_record}
use Rattle.route.specs.Placing.{placed_at, start_at, segment_of, point_of}
use Rattle.route.specs.Table.{checked, journey_of}
use Rattle.route.specs.Route.{route_of, load_of}
use Rattle.position.specs.Position.{front}
use Rattle.timing.specs.Distance.{beyond, at_stop, leaves}
use Rattle.timing.specs.Load.{target_from, target}
use Rattle.timing.specs.Report.{looked, reported}
use Rattle.timing.specs.Changes.{passings}
use Rattle.position.specs.Skips.{stop_named}
use Rattle.conditions.specs.Conditions.{first_ahead, conditions}
use Rattle.state_codes.specs.Numbers.{power_rows, state_row}
use Rattle.hold.specs.Hold.{held_stop, hold_row, hold_ended}
use Rattle.trackside.specs.Trackside.{status_told, each_told}
use Rattle.states.specs.States.{machine_after}
use Rattle.states.specs.ControlGroup.{control_after}
use Rattle.layout.specs.Layout.{bytes, values_at}
use Rattle.packets.specs.Packets.{value_bytes}
use Rattle.engine_value.specs.declared.Engine.{Engine}
use Rattle.call_values.specs.Packets.{timing_point, jp_received, ato_status, status_due, traction_brake, adhesion_system, packets_of, jp_turned_down, packets_refused}
use Rattle.call_values.specs.Rows.{offset_beyond}
use Rattle.call.specs.Effect.{position_effect, load_effect, skip_effect, effect}
use Rattle.call_values.specs.Call.{Call}
use Rattle.call.specs.Call.{Outcome, conditions_in, judge, judged, outcome_of, step_of}

unfoldable pub computed : Engine → Call → Outcome
unfolding number bytes_of field bit_map optional many counted listed values_at event_rows event_with content_among event_of_kind event_of book_point zone_record segment_record records book_of name_record point_record head_record journey_record placed_at start_at segment_of point_of checked journey_of route_of load_of front beyond at_stop leaves target_from target looked reported passings stop_named first_ahead conditions power_rows state_row held_stop hold_row hold_ended status_told each_told machine_after control_after bytes value_bytes timing_point jp_received ato_status status_due traction_brake adhesion_system packets_of jp_turned_down packets_refused offset_beyond position_effect load_effect skip_effect effect conditions_in judge judged outcome_of step_of
computed e c = step_of e c

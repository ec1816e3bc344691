-- To work a definition out on given octets is to unfold all that it stands on. Each name here stands for the definitions of one crate, and the
-- last for all of them: to unfold it is to unfold these. So a definition that comes, goes or changes its name is a change to one line.
-- Assumes nothing.
use mathlib.Core.List.{flatten}
use Rattle.octets.specs.Conditions.{holds}
use Rattle.octets.specs.Numbers.{low_first, high_first, low_octets}
use Rattle.octets.specs.Over.{over}
use Rattle.octets.specs.Calls.{fits_at, added}
use Rattle.octets.specs.Sum.{octet_sum, checksum}
use Rattle.octets.specs.Values.{signed, unsigned}
use Rattle.octets.specs.Keeping.{octets_of, kept_of}
use Rattle.history.specs.History.{answers, after, fed}
use Rattle.label.specs.Calendar.{leap, leap_day, month_length, days_of_months, days_to_year, day_number}
use Rattle.label.specs.Time.{real, minutes, parts_of}
use Rattle.label.specs.Label.{date_time_a, valid_a, instant, before_a, millisecond, second, valid_b, in_minute, before_b, parts_a}
use Rattle.label.specs.Label.{label_a_at, label_b_at, label_a_octets, label_b_octets}
use Rattle.frame.specs.Controls.{offered}
use Rattle.frame.specs.Frame.{sum_right, fixed_form, variable_form, start_of, said_fixed, said_variable, said, judge, body_of, start_with, written}
use Rattle.frame.specs.Writing.{reply_frame, reply_octets}
use Rattle.profile.specs.Character.{low_bits, bits_of, even_parity, rightly}
use Rattle.profile.specs.Profile.{judge_marked}
use Rattle.collector.specs.Collecting.{emptied, overfull, is_overfull, collected_in, run_of, verdict_of}
use Rattle.collector.specs.Calls.{collected_all_in}
use Rattle.collector.specs.Damage.{one_more}
use Rattle.records.specs.Records.{length_of, is_whole, walk, records, whole_at, record_at, records_from, kind_at, place_after}
use Rattle.records.specs.Said.{every, linked, keep, how_many, places_of}
use Rattle.fields.specs.Answers.{records_of, identity_found, leading, points_from, points_of, point_in}
use Rattle.fields.specs.Answers.{point_found, dates_at, dates_place, dates_found}
use Rattle.fields.specs.Calls.{value_found, event_found}
use Rattle.fields.specs.Parts.{number_at, link_of, date_of, maker_of, product_of, point_of, password_of}
use Rattle.fields.specs.Parts.{first_date, second_date, record_address, reading_label, value_of, quality_of, spa_of, spq_of, event_label}
use Rattle.image.specs.Image.{reading_record, event_record, right, by_point, reading_before, event_before, in_order, knows, sound_image}
use Rattle.choice.specs.Choice.{in_span, chosen, choice}
use Rattle.message.specs.Headers.{header_of, header_octets}
use Rattle.message.specs.Requests.{objects_offered, objects_many, asks_readings, labels_from, request_of}
use Rattle.message.specs.Mirror.{mirror, mirror_of}
use Rattle.message.specs.Table.{table, row_in}
use Rattle.rules.specs.Decide.{span_of, labels_valid, first_after_last, none_in, by_type, decide}
use Rattle.data.specs.Messages.{reply_header, object_octets, objects_octets, reading_reply}
use Rattle.data.specs.Portions.{portion, reading_portion, next_reading}
use Rattle.deeds.specs.Deeds.{carried_out, nothing_pending}
use Rattle.waiting.specs.NextReply.{firstly, lastly, nothing_found, reading_type, data_pending, mirror_with, clock_from, data_from, after_data, begin_with, next_of}
use Rattle.waiting.specs.Collected.{messages_collected}
use Rattle.link.specs.State.{power_on, after_reset, after_new}
use Rattle.link.specs.Answering.{answered_by, noted, carried, user_data, given, collection, counted, answered}
use Rattle.card.specs.State.{card_at_power_on, with_character, with_characters, left_with, damaged_by}
use Rattle.card.specs.Examining.{examined_frame, examined}
use Rattle.card.specs.Gap.{refusal, replied_by, after_answer, after_examining, gapped, gone_by}

unfoldable pub of_octets : Unit {0}
unfolding flatten holds low_first high_first low_octets over fits_at octet_sum checksum signed unsigned octets_of kept_of added
of_octets = tt

unfoldable pub of_history : Unit {0}
unfolding answers after fed
of_history = tt

unfoldable pub of_label : Unit {0}
unfolding leap leap_day month_length days_of_months days_to_year day_number date_time_a valid_a instant before_a millisecond second valid_b in_minute before_b
    parts_a real minutes parts_of label_a_at label_b_at label_a_octets label_b_octets
of_label = tt

unfoldable pub of_frame : Unit {0}
unfolding offered sum_right fixed_form variable_form start_of said_fixed said_variable said judge body_of start_with written reply_frame reply_octets
of_frame = tt

unfoldable pub of_profile : Unit {0}
unfolding low_bits bits_of even_parity rightly judge_marked
of_profile = tt

unfoldable pub of_collector : Unit {0}
unfolding emptied overfull is_overfull collected_in run_of collected_all_in verdict_of one_more
of_collector = tt

unfoldable pub of_records : Unit {0}
unfolding length_of is_whole walk records whole_at record_at records_from kind_at place_after every linked keep how_many places_of
of_records = tt

unfoldable pub of_fields : Unit {0}
unfolding records_of identity_found leading points_from points_of point_in point_found dates_at dates_place dates_found value_found event_found number_at
    link_of date_of maker_of product_of point_of password_of first_date second_date record_address reading_label value_of quality_of spa_of spq_of event_label
of_fields = tt

unfoldable pub of_image : Unit {0}
unfolding reading_record event_record right by_point reading_before event_before in_order knows sound_image
of_image = tt

unfoldable pub of_choice : Unit {0}
unfolding in_span chosen choice
of_choice = tt

unfoldable pub of_message : Unit {0}
unfolding header_of header_octets objects_offered objects_many asks_readings labels_from request_of mirror mirror_of table row_in
of_message = tt

unfoldable pub of_rules : Unit {0}
unfolding span_of labels_valid first_after_last none_in by_type decide
of_rules = tt

unfoldable pub of_data : Unit {0}
unfolding reply_header object_octets objects_octets reading_reply portion reading_portion next_reading
of_data = tt

unfoldable pub of_deeds : Unit {0}
unfolding carried_out nothing_pending
of_deeds = tt

unfoldable pub of_waiting : Unit {0}
unfolding firstly lastly nothing_found reading_type data_pending mirror_with clock_from data_from after_data begin_with next_of messages_collected
of_waiting = tt

unfoldable pub of_link : Unit {0}
unfolding power_on after_reset after_new answered_by noted carried user_data given collection counted answered
of_link = tt

unfoldable pub of_card : Unit {0}
unfolding card_at_power_on with_character with_characters left_with damaged_by examined_frame examined refusal replied_by after_answer after_examining gapped gone_by
of_card = tt

unfoldable pub everything : Unit {0}
unfolding of_octets of_history of_label of_frame of_profile of_collector of_records of_fields of_image of_choice of_message of_rules of_data of_deeds of_waiting of_link of_card
everything = tt

-- Nothing to believe here: one name that opens every definition of 01, for what is computed. A declaration that says
-- `unfolding running` sees through them all.
use Rattle.std.specs.Float.Ieee.{of_bits, to_bits, nan_bits, le}
use Rattle.std.specs.Prelude.{ℕ}
use Rattle.numbers.specs.Little.{number, number_bytes, number_at, put_at, width_within, smallest_width}
use Rattle.signed.specs.Signed.{signed_of, signed_bytes}
use Rattle.order.specs.Before.{before, order_of}
use Rattle.paper.specs.Words.{given, one_if, is_there, and_then, numbers, last_of, all_below, same, among, joined}
use Rattle.paper.specs.Refusals.{require, obtain}
use Rattle.paper.specs.Metadata.{header_good, flag_set, offset_size, never_fall, cut_at, rising, offsets_start, name_count, names_start, name_offsets, names_area, names_in, framed, offsets_good, dictionary_of}
use Rattle.paper.specs.FirstBytes.{length_prefixed, payload_sizes, primitive_reading, count_size, kind_reading, reading_of}
use Rattle.paper.specs.Meaning.{text_meaning}
use Rattle.paper.specs.Standing.{field_at, element_at, step_from, stands_at}
use Rattle.paper.specs.Values.{head_size_of, container_extent, extent_by, extent, child_extent, children_at, end_to_end, holders, every_byte_once, child_bytes, ids_of, starts_of, area_of, elements_of, names_at, members_of, primitive_meaning, prefixed_meaning, element_docs, member_docs, meaning_by, ends_at, whole, meaning_of, string_meaning}
use Rattle.paper.specs.Normal.{insert_by, insert_name, names_used, offsets_from, numbers_bytes, metadata_width, metadata_bytes, prefixed_bytes, text_bytes, scalar_bytes, large_bit, largest, array_bytes, object_bytes, id_of, field_names, normal_form, add_names, add_names_of_all, add_names_of_fields, value_bytes, element_bytes, member_bytes}
use Rattle.paper.specs.Framing.{pieces_within, pieces_of, only, one_piece, frame}
use Rattle.paper.specs.Schemas.{column_names, column_code, node_tag, field_parts, field_nodes, node_by, node_of, schema_of, column_of}
use Rattle.paper.specs.Cells.{takes, cell_bytes, body_kind, cell_by, cell_meaning, number_cell, handed_out}
use Rattle.paper.specs.Rows.{leftover_meaning, place_parts, place_by, list_places, row_parts, row_of, field_places, place_under, place_within, no_body, cell_body, inner_body}
use Rattle.paper.specs.Rules.{has_leftover, has_typed, leftover_of, is_object, is_array, is_fields_node, is_list_node, named_by, any_named, has_any, breaks_a, breaks_b, breaks_c, breaks_d, breaks_e, breaks_f, inside_lawful, place_lawful, elements_lawful, row_lawful, fields_lawful, place_lawful_by, cell_lawful, inner_lawful}
use Rattle.paper.specs.Shredding.{unnamed, with_rest, cut_scalar, cut_all, cut_field, row_bytes, cut, cut_fields, place_bytes, typed_bytes, places_bytes}
use Rattle.paper.specs.Rebuilding.{insert_field_by, insert_field, merge, fields_in, or_null, place_meaning, list_meaning, add_field, row_meaning, fields_meaning, place_meaning_by, cell_doc, inner_doc}
use Rattle.paper.specs.Paths.{step_of, steps_of, path_of, child_named, child_number, behind_head, into_field, into_element, step_into, find_from}
use Rattle.paper.specs.Boxes.{east, north, south, west, double_in, double_of, side, box_in, box_of}
use Rattle.paper.specs.Operations.{judged, document_fits, check_outcome, checked_by, check_answer, find_answer, written, document_room, document_answer, metadata_written, value_written, normalise_outcome, row_outcome, shred_outcome, row_answer, row_written, rebuild_outcome, cell_answer, box_answer, value_judged, writable, row_judged, judge_answer}

unfoldable pub running : ℕ
unfolding of_bits to_bits nan_bits le number number_bytes number_at put_at width_within smallest_width signed_of signed_bytes before order_of given one_if is_there and_then numbers last_of all_below same among joined require obtain header_good flag_set offset_size never_fall cut_at rising offsets_start name_count names_start name_offsets names_area names_in framed offsets_good dictionary_of length_prefixed payload_sizes primitive_reading count_size kind_reading reading_of text_meaning field_at element_at step_from stands_at head_size_of container_extent extent_by extent child_extent children_at end_to_end holders every_byte_once child_bytes ids_of starts_of area_of elements_of names_at members_of primitive_meaning prefixed_meaning element_docs member_docs meaning_by ends_at whole meaning_of string_meaning insert_by insert_name names_used offsets_from numbers_bytes metadata_width metadata_bytes prefixed_bytes text_bytes scalar_bytes large_bit largest array_bytes object_bytes id_of field_names normal_form add_names add_names_of_all add_names_of_fields value_bytes element_bytes member_bytes pieces_within pieces_of only one_piece frame column_names column_code node_tag field_parts field_nodes node_by node_of schema_of column_of takes cell_bytes body_kind cell_by cell_meaning number_cell handed_out leftover_meaning place_parts place_by list_places row_parts row_of field_places place_under place_within no_body cell_body inner_body has_leftover has_typed leftover_of is_object is_array is_fields_node is_list_node named_by any_named has_any breaks_a breaks_b breaks_c breaks_d breaks_e breaks_f inside_lawful place_lawful elements_lawful row_lawful fields_lawful place_lawful_by cell_lawful inner_lawful unnamed with_rest cut_scalar cut_all cut_field row_bytes cut cut_fields place_bytes typed_bytes places_bytes insert_field_by insert_field merge fields_in or_null place_meaning list_meaning add_field row_meaning fields_meaning place_meaning_by cell_doc inner_doc step_of steps_of path_of child_named child_number behind_head into_field into_element step_into find_from east north south west double_in double_of side box_in box_of judged document_fits check_outcome checked_by check_answer find_answer written document_room document_answer metadata_written value_written normalise_outcome row_outcome shred_outcome row_answer row_written rebuild_outcome cell_answer box_answer value_judged writable row_judged judge_answer
running = 0

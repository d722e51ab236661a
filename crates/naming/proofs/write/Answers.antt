-- `write`: header, count, offsets and names, each put behind the one before it.
use mathlib.Core.Path.{refl}
use borrow.Author.Rules.{rules}
use Rattle.naming.proofs.SizeLaws.{size_fits, fitting, header_room, count_room, offsets_room, names_room, written, written_length}
use Rattle.naming.proofs.write.Goals as goal

pub overflow_mul-start : goal.overflow_mul-start
overflow_mul-start c = let fits = size_fits _ _ c.requires.0.few c.offset_size-width.ensures.2 in search rules

pub overflow_add-start-2 : goal.overflow_add-start-2
overflow_add-start-2 c = let fits = size_fits _ _ c.requires.0.few c.offset_size-width.ensures.2 in search rules

pub bounds-out-0 : goal.bounds-out-0
bounds-out-0 c = let f = fitting c.args.out.now c.requires c.total_of-total.ensures c.offset_size-width.ensures in
    header_room f

pub write-requires : goal.write-requires
write-requires c = let f = fitting c.args.out.now c.requires c.total_of-total.ensures c.offset_size-width.ensures in
    (count_room f refl, c.offset_size-width.ensures.1, c.offset_size-width.ensures.2)

pub write_offsets-requires : goal.write_offsets-requires
write_offsets-requires c = let f = fitting c.args.out.now c.requires c.total_of-total.ensures c.offset_size-width.ensures in
    (c.requires.0, c.offset_size-width.ensures.1, c.offset_size-width.ensures.2, offsets_room f refl c.write.ensures)

pub write_names-requires : goal.write_names-requires
write_names-requires c = let f = fitting c.args.out.now c.requires c.total_of-total.ensures c.offset_size-width.ensures in (
  c.requires.0,
  names_room f refl
      c.write.ensures
      c.write_offsets.ensures,
)

pub shape_of-out : goal.shape_of-out
shape_of-out c = let f = fitting c.args.out.now c.requires c.total_of-total.ensures c.offset_size-width.ensures in
    written_length f refl
    c.write.ensures
    c.write_offsets.ensures c.write_names.ensures

pub returns : goal.returns
returns c = let f = fitting c.args.out.now c.requires c.total_of-total.ensures c.offset_size-width.ensures in
    written f refl
    c.write.ensures
    c.write_offsets.ensures c.write_names.ensures

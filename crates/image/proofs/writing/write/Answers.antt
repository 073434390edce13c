-- `write` meets its contract: by the check, by the length of the image, and by the copy.
-- Assumes nothing.
use native.Mathlib.Omega.{arith}
use mathlib.Core.Path.{sym, ◌∙◌}
use lib.ListN.{length-take}
use lib.Seq.{length-take-le}
use Rattle.image.specs.Results.{number_of, written_as}
use Rattle.image.proofs.WritingSteps.{image-most, written-unsound, buffer-refused, put-short, put_whole, put-copied}
use Rattle.image.proofs.writing.write.Goals as goal

pub returns-then-not-sound : goal.returns-then-not-sound
unfolding number_of written_as
returns-then-not-sound c =
    let e = written-unsound _ _ (sym c.sound.ensures ∙ c.if-not-sound.true) in
    record { result_value = sym e; buffer = buffer-refused _ _ 2 e }

pub put_image-length-requires : goal.put_image-length-requires
put_image-length-requires c = image-most _

pub returns-then-buffer-length : goal.returns-then-buffer-length
unfolding number_of written_as
returns-then-buffer-length c =
    let sound = sym c.sound.ensures ∙ c.if-not-sound.false in
    let e = put-short _ _ _ _ _ sound c.put_image-length.ensures c.if-buffer-length.true in
    record { result_value = sym e; buffer = buffer-refused _ _ 9 e }

pub slice_bounds-space-end : goal.slice_bounds-space-end
slice_bounds-space-end c =
    let most = image-most c.args.drive.machine in
    omega (arith, c.put_image-length.ensures.next, most)

pub slice_bounds-copy-end : goal.slice_bounds-copy-end
slice_bounds-copy-end c =
    let most = image-most c.args.drive.machine in
    sym (length-take-le _ _ (omega (arith, c.put_image-length.ensures.next, most)))

pub copy-requires : goal.copy-requires
copy-requires c = simp length-take (omega arith)

pub returns : goal.returns
unfolding number_of written_as
returns c =
    let sound = sym c.sound.ensures ∙ c.if-not-sound.false in
    let room = c.if-buffer-length.false in
    let put = c.put_image-length.ensures in
    record {
      result_value = sym (put_whole _ _ _ _ _ sound put room);
      buffer = put-copied _ _ _ _ _ sound put _ (image-most _) room c.copy.ensures;
    }

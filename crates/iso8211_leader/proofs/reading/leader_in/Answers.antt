use Rattle.std.proofs.Common.{refl, arith}
use Rattle.iso8211_leader.specs.Leader.{frame_of}
use Rattle.iso8211_leader.proofs.reading.leader_in.Goals as goal

pub returns : goal.returns
unfolding frame_of
returns c =
    let length = c.in_ok-length.ensures.value in
    let base = c.in_ok-base.ensures.value in
    let size_length = c.in_ok-size_length.ensures in
    let size_position = c.in_ok-size_position.ensures in
    let kind = c.if-not-is_kind.ensures.0 refl in (
      record {
        whole = c.requires;
        length_in_digits = length.0;
        kind = kind.0;
        control_length = kind.1;
        base_in_digits = base.0;
        directory = omega arith;
        field_area = omega arith;
        size_of_length = size_length.0;
        size_of_position = size_position.0;
        size_of_tag = kind.2;
      },
      cc (length.1, base.1, size_length.1, size_position.1),
    )

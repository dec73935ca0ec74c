use Rattle.std.proofs.Common.{sym}
use Rattle.rtp_values.specs.StandardColor.{color_data}
use Rattle.rtp_c.proofs.StandardLemmas.{front-put, WritesData-put}
use Rattle.rtp_c.proofs.standard.color_space.rtpw_write_color_space.Goals as goal

pub returns : goal.returns
returns c =
    WritesData-put (record {
      space = c.in-Some.given;
      is_given = c.in-Some.ensures.found;
      bytes_are = sym (front-put _ (color_data c.in-Some.given) c.write_to-data_len.new.buf c.write_to-data_len.result c.write_to-data_len.ensures.length c.write_to-data_len.ensures.written);
    }) c.put_data.ensures

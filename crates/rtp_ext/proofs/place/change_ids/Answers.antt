use Rattle.rtp_ext.proofs.Common.{sym, subst, ids_of, HasOtherIds}
use Rattle.rtp_ext.proofs.place.change_ids.Goals as goal

pub returns-in-OneByte : goal.returns-in-OneByte
returns-in-OneByte c =
    let told = c.change_ids_in in
    subst (λ form. HasOtherIds form (ids_of c.args.change) c.args.body.now told.new.body told.result) (sym c.in-OneByte.is) told.ensures

pub returns-in-TwoByte : goal.returns-in-TwoByte
returns-in-TwoByte c =
    let told = c.change_ids_in-in-TwoByte in
    subst (λ form. HasOtherIds form (ids_of c.args.change) c.args.body.now told.new.body told.result) (sym c.in-TwoByte.is) told.ensures

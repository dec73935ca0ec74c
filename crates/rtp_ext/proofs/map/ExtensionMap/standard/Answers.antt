use Rattle.std.proofs.Common.{arith}
use Rattle.rtp_ext.specs.ExtensionMap as spec
use Rattle.rtp_ext.proofs.ListingLemmas.{IsListed, IsListed-none, IsListed-set}
use Rattle.rtp_ext.proofs.map.ExtensionMap.standard.Goals as goal

listed : (c : goal.After-set-7) → IsListed c.set-7.new.self spec.standard_items 14
listed c =
    let none = IsListed-none _ c.empty-exts.ensures in
    let one = IsListed-set _ (omega arith) none (c.set.ensures.within (omega arith, omega arith)) in
    let two = IsListed-set _ (omega arith) one (c.set-2.ensures.within (omega arith, omega arith)) in
    let three = IsListed-set _ (omega arith) two (c.set-3.ensures.within (omega arith, omega arith)) in
    let four = IsListed-set _ (omega arith) three (c.set-4.ensures.within (omega arith, omega arith)) in
    let five = IsListed-set _ (omega arith) four (c.set-5.ensures.within (omega arith, omega arith)) in
    let six = IsListed-set _ (omega arith) five (c.set-6.ensures.within (omega arith, omega arith)) in
    IsListed-set _ (omega arith) six (c.set-7.ensures.within (omega arith, omega arith))

pub returns-clause-items : goal.returns-clause-items
returns-clause-items c = (listed c).listing

pub returns-clause-unlocked : goal.returns-clause-unlocked
returns-clause-unlocked c = (listed c).unlocked

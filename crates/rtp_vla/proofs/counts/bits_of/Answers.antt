use Rattle.rtp_vla.proofs.Common.{arith, get_or_past}
use Rattle.rtp_vla.proofs.CountsLemmas.{counts_in-bytes}
use Rattle.rtp_vla.proofs.counts.bits_of.Goals as goal

pub returns-in-empty : goal.returns-in-empty
returns-in-empty c n within = counts_in-bytes c.args.bytes.now n 0 c.requires.few (λ k. omega (arith, c.type_inv.bytes k)) (omega (arith, get_or_past c.args.bytes.now 0 0 (omega arith), get_or_past c.args.bytes.now 1 0 (omega arith), get_or_past c.args.bytes.now 2 0 (omega arith), get_or_past c.args.bytes.now 3 0 (omega arith))) within

pub returns-in-len1 : goal.returns-in-len1
returns-in-len1 c n within = counts_in-bytes c.args.bytes.now n c.word.result c.requires.few (λ k. omega (arith, c.type_inv.bytes k)) (omega (arith, c.word.ensures, get_or_past c.args.bytes.now 1 0 (omega arith), get_or_past c.args.bytes.now 2 0 (omega arith), get_or_past c.args.bytes.now 3 0 (omega arith))) within

pub returns-in-len2 : goal.returns-in-len2
returns-in-len2 c n within = counts_in-bytes c.args.bytes.now n c.word-in-len2.result c.requires.few (λ k. omega (arith, c.type_inv.bytes k)) (omega (arith, c.word-in-len2.ensures, get_or_past c.args.bytes.now 2 0 (omega arith), get_or_past c.args.bytes.now 3 0 (omega arith))) within

pub returns-in-len3 : goal.returns-in-len3
returns-in-len3 c n within = counts_in-bytes c.args.bytes.now n c.word-in-len3.result c.requires.few (λ k. omega (arith, c.type_inv.bytes k)) (omega (arith, c.word-in-len3.ensures, get_or_past c.args.bytes.now 3 0 (omega arith))) within

pub returns-in-len4-up : goal.returns-in-len4-up
returns-in-len4-up c n within = counts_in-bytes c.args.bytes.now n c.word-in-len4-up.result c.requires.few (λ k. omega (arith, c.type_inv.bytes k)) (omega (arith, c.word-in-len4-up.ensures)) within

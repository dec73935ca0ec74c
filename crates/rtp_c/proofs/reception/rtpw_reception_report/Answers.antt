use Rattle.rtp_c.proofs.reception.rtpw_reception_report.Goals as goal

pub returns-clause-report : goal.returns-clause-report
returns-clause-report c packets reported are done = c.in-Some.ensures.report packets reported are

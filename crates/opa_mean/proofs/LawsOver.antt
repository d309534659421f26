-- The laws over accepted rulebases and cases that fit.
use Rattle.std.proofs.Common.{ap}
use Rattle.opa_case.specs.Cases.{CaseView}
use Rattle.opa_tree.specs.declared.rulebase.Rulebase.{Rulebase}
use Rattle.opa_mean.specs.Bases.{IsBase}
use Rattle.opa_mean.specs.Completion.{AreFacts}
use Rattle.opa_mean.specs.Given.{base_of, facts_of}
use Rattle.opa_mean.specs.Mean.{Facts, mean}
use Rattle.opa_mean.specs.Rulebases.{IsOf, Determination, OfTheCaseAlone, Monotone, Supported, Asked, Relevant, ReadsFix, CleanStays, Finished}
use Rattle.opa_mean.proofs.Accepting.{is_base, case_facts}
use Rattle.opa_mean.proofs.Cleaning.{clean_stays}
use Rattle.opa_mean.proofs.Fitting.{live_in}
use Rattle.opa_mean.proofs.LawsHold as plain
use Rattle.opa_mean.proofs.Nexts.{asked_until_known}

pub base : (r : Rulebase) (c : CaseView) → IsOf r c → IsBase (base_of r)
base r c is = is_base r is.is_model

pub facts : (r : Rulebase) (c : CaseView) → IsOf r c → AreFacts (base_of r).shape (facts_of c)
facts r c is = case_facts r.model is.is_model r.ruled c is.fits

pub determination_holds : Determination
determination_holds r c is a i d = plain.determination_holds (base_of r) (facts_of c) (base r c is) a i d

pub of_the_case_alone_holds : OfTheCaseAlone
of_the_case_alone_holds r c c' same a i d = ap (λ (f : Facts). mean (base_of r) f a i d) same

pub monotone_holds : Monotone
monotone_holds r c c' h a i d free live = plain.monotone_holds (base_of r) (facts_of c) (facts_of c') (facts r c h.before) h.more a i d free (live_in c i live)

pub supported_holds : Supported
supported_holds r c is a i d live c' is' live' agrees = plain.supported_holds (base_of r) (facts_of c) (base r c is) (facts r c is) a i d (live_in c i live) (facts_of c') (facts r c' is') (live_in c' i live') agrees

pub asked_holds : Asked
asked_holds r c is a i d = plain.asked_holds (base_of r) (facts_of c) (base r c is) a i d

pub relevant_holds : Relevant
relevant_holds r c c' h a i d free live un open_ = plain.relevant_holds (base_of r) (facts_of c) (facts_of c') (base r c h.before) (facts r c h.before) (facts r c' h.after) h.more a i d free (live_in c i live) un open_

pub reads_fix_holds : ReadsFix
reads_fix_holds r c c' is is' a i rule e live live' same h d lt = plain.reads_fix_holds (base_of r) (facts_of c) (facts_of c') (base r c is) (facts r c is) (facts r c' is') a i rule e (live_in c i live) (live_in c' i live') same h d lt

pub clean_stays_holds : CleanStays
clean_stays_holds r c c' is is' a i rule e live' clean d lt = clean_stays (base_of r) (facts_of c) (facts_of c') (base r c is) (facts r c is) (facts r c' is') a i rule e (live_in c' i live') clean d lt

pub finished_holds : Finished
finished_holds r c is goals = asked_until_known (base_of r) (base r c is) (facts_of c) goals

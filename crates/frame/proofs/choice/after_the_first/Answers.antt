-- `after_the_first` meets its contract.
use Rattle.frame.specs.inner.Places.{history_of, samples_of}
use Rattle.frame.proofs.LawsChoice.{held_first}
use Rattle.frame.proofs.choice.after_the_first.Goals as goal

pub returns : goal.returns
returns c =
    let fs = c.args.frame.now.samples in
    held_first (history_of fs) (samples_of fs) c.args.bank.now.coefficients c.candidate_at-tried.result c.candidate_at-tried.ensures

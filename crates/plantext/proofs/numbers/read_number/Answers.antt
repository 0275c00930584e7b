use Rattle.plantext.proofs.Reading.{written_read_back}
use Rattle.plantext.proofs.numbers.read_number.Goals as goal

pub returns-clause-back : goal.returns-clause-back
returns-clause-back c = written_read_back

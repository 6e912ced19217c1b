use Rattle.table.proofs.Filing.{file_reads}
use Rattle.table.proofs.file.file_reads.Goals as goal

pub returns : goal.returns
returns c = file_reads

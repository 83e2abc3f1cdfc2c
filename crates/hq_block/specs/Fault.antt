-- The faults of rows and blocks, from what reading met in place of them.
use Rattle.hq_block.specs.declared.fault.Misread.{Misread}
use Rattle.hq_block.specs.declared.fault.Misread.TheVariants as misread
use Rattle.hq_block.specs.declared.fault.RowFault.{RowFault}
use Rattle.hq_block.specs.declared.fault.RowFault.TheVariants as of_row
use Rattle.hq_block.specs.declared.fault.BlockFault.{BlockFault}
use Rattle.hq_block.specs.declared.fault.BlockFault.TheVariants as of_block

abbrev pub row_fault : Misread → RowFault
row_fault misread.Absent = of_row.NotARow
row_fault misread.NoMemory = of_row.NoMemory

abbrev pub block_fault : Misread → BlockFault
block_fault misread.Absent = of_block.NotABlock
block_fault misread.NoMemory = of_block.NoMemory

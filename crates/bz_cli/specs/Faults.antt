-- Why a pool came to no close, as the command's fault.
use Rattle.bz_locked.specs.declared.closing.CloseError.TheVariants as close
use Rattle.bz_pool.specs.declared.pool.PoolError.{PoolError}
use Rattle.bz_pool.specs.declared.pool.PoolError.TheVariants as pool
use Rattle.bz_cli_input.specs.declared.fault.Fault.{Fault}
use Rattle.bz_cli_input.specs.declared.fault.Fault.TheVariants.{Discord, NoThread, Memory}

abbrev pub of_pool : PoolError → Fault
of_pool (pool.Close (close.Discord who at)) = Discord who at
of_pool (pool.Close close.Memory) = Memory
of_pool pool.Memory = Memory
of_pool pool.NoThread = NoThread

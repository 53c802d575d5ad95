-- No refusal has the number 0, so that code 0 is told only where a call is accepted; and none has the number 16. Assumes nothing.
use native.Mathlib.Omega.{arith}
use Rattle.coefficients.specs.declared.Refusal as Measuring
use Rattle.coefficients.specs.declared.Refusal.TheVariants as OfMeasuring
use Rattle.coefficients.specs.Measure as MeasuringNumbers
use Rattle.frame.specs.declared.Refusal as Frame
use Rattle.frame.specs.declared.Refusal.TheVariants as OfFrame
use Rattle.frame.specs.Frame as FrameNumbers
use Rattle.clip.specs.declared.Refusal as Clip
use Rattle.clip.specs.declared.Refusal.TheVariants as OfClip
use Rattle.clip.specs.Encoding as ClipNumbers
use Rattle.image.specs.declared.Refusal as Image
use Rattle.image.specs.declared.Refusal.TheVariants as OfImage
use Rattle.image.specs.Opening as ImageNumbers
use Rattle.block.specs.declared.Refusal as Block
use Rattle.block.specs.declared.Refusal.TheVariants as OfBlock
use Rattle.block.specs.Refusals as BlockNumbers
use Rattle.dsp.specs.declared.Refusal as Dsp
use Rattle.dsp.specs.declared.Refusal.TheVariants as OfDsp
use Rattle.dsp.specs.Answers as DspNumbers
use Rattle.doilycairn.specs.Codes.{RefusalNumber}

pub measuring-refused : (r : Measuring.Refusal) → RefusalNumber (MeasuringNumbers.code r)
measuring-refused OfMeasuring.InvalidState = (omega arith, λ e. omega arith)
measuring-refused OfMeasuring.TooManySamples = (omega arith, λ e. omega arith)
measuring-refused OfMeasuring.StoreTooShort = (omega arith, λ e. omega arith)

pub frame_refused : (r : Frame.Refusal) → RefusalNumber (FrameNumbers.code r)
frame_refused OfFrame.CoefficientOutside = (omega arith, λ e. omega arith)

pub clip-refused : (r : Clip.Refusal) → RefusalNumber (ClipNumbers.code r)
clip-refused OfClip.InvalidState = (omega arith, λ e. omega arith)
clip-refused OfClip.BadSampleCount = (omega arith, λ e. omega arith)
clip-refused OfClip.RateZero = (omega arith, λ e. omega arith)
clip-refused OfClip.BadBlockSize = (omega arith, λ e. omega arith)
clip-refused OfClip.CoefficientOutside = (omega arith, λ e. omega arith)
clip-refused OfClip.LoopOutside = (omega arith, λ e. omega arith)
clip-refused OfClip.ImageTooShort = (omega arith, λ e. omega arith)
clip-refused OfClip.AlreadyClosed = (omega arith, λ e. omega arith)
clip-refused OfClip.PieceTooLong = (omega arith, λ e. omega arith)
clip-refused OfClip.Unfinished = (omega arith, λ e. omega arith)

pub image-refused : (r : Image.Refusal) → RefusalNumber (ImageNumbers.code r)
image-refused OfImage.LowestPair = (omega arith, λ e. omega arith)
image-refused OfImage.OutputTooShort = (omega arith, λ e. omega arith)
image-refused OfImage.BadHead = (omega arith, λ e. omega arith)
image-refused OfImage.NoSuchBlock = (omega arith, λ e. omega arith)
image-refused OfImage.NoSuchSample = (omega arith, λ e. omega arith)
image-refused (OfImage.BadOffset j) = (omega arith, λ e. omega arith)
image-refused (OfImage.BadLength j) = (omega arith, λ e. omega arith)
image-refused (OfImage.BadHeader j) = (omega arith, λ e. omega arith)
image-refused OfImage.BadLoop = (omega arith, λ e. omega arith)

pub block_refused : (r : Block.Refusal) → RefusalNumber (BlockNumbers.code r)
block_refused OfBlock.LengthOutOfRange = (omega arith, λ e. omega arith)
block_refused OfBlock.LowestPair = (omega arith, λ e. omega arith)
block_refused OfBlock.OutputTooShort = (omega arith, λ e. omega arith)
block_refused OfBlock.CoefficientsDiffer = (omega arith, λ e. omega arith)

pub dsp-refused : (r : Dsp.Refusal) → RefusalNumber (DspNumbers.code r)
dsp-refused OfDsp.BadSampleCount = (omega arith, λ e. omega arith)
dsp-refused OfDsp.RateZero = (omega arith, λ e. omega arith)
dsp-refused OfDsp.BadBlockSize = (omega arith, λ e. omega arith)
dsp-refused OfDsp.ImageTooShort = (omega arith, λ e. omega arith)
dsp-refused OfDsp.LowestPair = (omega arith, λ e. omega arith)
dsp-refused OfDsp.OutputTooShort = (omega arith, λ e. omega arith)
dsp-refused OfDsp.FileTooShort = (omega arith, λ e. omega arith)
dsp-refused OfDsp.BadField = (omega arith, λ e. omega arith)
dsp-refused (OfDsp.OtherHistory j) = (omega arith, λ e. omega arith)
dsp-refused (OfDsp.OfImage r) = image-refused r

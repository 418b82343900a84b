mod Principals
mod StepCases
mod StepLaws
mod OneStep
